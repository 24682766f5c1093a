-- There is an answer to the map question about an accepted sheet.
use Rattle.std.specs.Prelude.{◌≡◌, false, ◌↔◌, T, eqb, leb}
use Rattle.std.proofs.Math.Path.{refl, ap, sym as back}
use Rattle.std.proofs.Common.{◌∙◌, arith, eqb→eq, leb→le}
use Rattle.std.proofs.Math.Bool.{true}
use mathlib.Core.List.{List}
use Prim.Native.Nat.{ℕ, suc, ◌≤◌, ◌<◌}
use Rattle.std.proofs.Math.Dec.{eqb_refl, le→leb}
use Rattle.std.proofs.Math.ListN.{length, get_or, length-map}
use Rattle.model.specs.Term.{Asym, asymmetric, Term, atom, inv, flip}
use Rattle.model.specs.Carry.{Occurs, here, left, right, body, key, hashed, inside, in_inverse, in_pubk, in_ltk_left, in_ltk_right}
use Rattle.model.specs.Subst.{Subst, apply, on_atom, on_sym, on_asym, turned}
use Rattle.model.specs.Table.{Row, term, terms_after, meaning, name_of}
use Rattle.model.specs.Skeleton.{message, Skeleton, means}
use Rattle.model.specs.Maps.{Rule2, Rule3, Rule4, Rule5, Rule6, OneByteEach, Kept, Upto, FirstBroken, SourceVariable, Images}
use Rattle.model.specs.Sheet.{Sheet, Verdict, Drawing, meant}
use Rattle.model.specs.Answers.{HasSkeletons, is_map, breaks, over, ImageRoom, SaysMap, yes_map, no_map}
use Rattle.theory.specs.Substituting.{plain}
use Rattle.model.proofs.Laws.{flip_on_atom}
use Rattle.theory.specs.GoodTable.{Good}
use Rattle.theory.specs.Numbers.{number}
use Rattle.theory.specs.OnSheet.{OnSheet, on_pair, on_enc, on_hash, on_inverse, number_inside, term_number}
use Rattle.theory.specs.Find.{find}
use Rattle.theory.specs.Happenings.{at_meant, message_means}
use Rattle.theory.specs.Matching.{found, serves, serves_granted, granted_serves}
use Rattle.theory.specs.MapLaws.{Rule1, AtomsOccur, atoms_agree, skeleton_atoms}
use Rattle.theory.proofs.MapTests.{asked, test₁, test₂, test₄, test₅, test₆, rule₁_iff, rule₂_iff, wishes_inside, granted_rule₃, rule₃_granted, rule₄_iff, rule₅_iff, rule₆_iff}
use Rattle.theory.specs.Deciding.{less, dec_of, dec_to, dec_both}
use Rattle.theory.proofs.Occurring.{occurs_on}
use Rattle.theory.proofs.Faults.{variable_test, occurs_test}
use Rattle.theory.specs.Judgement.{Sound}
use Rattle.theory.specs.NoSecond.{upto_less}
use Rattle.theory.proofs.Answering.{Told, Had, had}
use Rattle.theory.proofs.Listing.{meets_skeletons}
use Rattle.theory.specs.OnTable.{OnTable}
use Rattle.model.specs.Lists.{upto}
use Rattle.theory.specs.Upto.{length-upto, upto_at}

-- The image of a part of a term whose image is on the sheet is on the sheet

module _ (rows : List Row) (good : Good rows) (σ : Subst) where
  flipped : (k : Asym) → flip (on_atom σ (asymmetric true k)) ≡ on_atom σ (asymmetric false k)
  unfolding flip
  flipped k = flip_on_atom σ (asymmetric true k)

  inverse_image : (k : Asym) → OnSheet rows (atom (on_atom σ (asymmetric true k)))
      → OnSheet rows (atom (on_atom σ (asymmetric false k)))
  unfolding inv
  inverse_image k s = rw (flipped k) at (on_inverse rows good (atom (on_atom σ (asymmetric true k))) s)

  pub part_image : {x u : Term} → Occurs x u → OnSheet rows (apply σ u) → OnSheet rows (apply σ x)
  unfolding apply on_atom on_sym on_asym turned inv
  part_image here s = s
  part_image (left o) s = part_image o (on_pair rows good s).0
  part_image (right o) s = part_image o (on_pair rows good s).1
  part_image (body o) s = part_image o (on_enc rows good s).0
  part_image (key o) s = part_image o (on_enc rows good s).1
  part_image (hashed o) s = part_image o (on_hash rows good s)
  part_image (inside (in_inverse {k}) o) s = part_image o (inverse_image k s)
  part_image (inside in_pubk o) s = part_image o (occurs_on rows good (inside in_pubk here) s)
  part_image (inside in_ltk_left o) s = part_image o (occurs_on rows good (inside in_ltk_left here) s)
  part_image (inside in_ltk_right o) s = part_image o (occurs_on rows good (inside in_ltk_right here) s)

module _ (rows : List Row) (good : Good rows) (A B : Skeleton ℕ) (okA : OnTable rows A) (okB : OnTable rows B) where
  abbrev A' : Skeleton Term
  A' = means (term rows) A

  abbrev B' : Skeleton Term
  B' = means (term rows) B

  -- The images

  module _ (σ : Subst) where
    unfoldable pub variable_in : (i : ℕ) → i < length rows → Dec (SourceVariable A' (term rows i))
    unfolding dec_to dec_both variable_test occurs_test term terms_after meaning name_of inv flip
    variable_in i l =
        dec_to (dec_both (variable_test (term rows i)) (occurs_test rows good A okA i l))
        (λ p. record { variable = p.0; occurs = p.1 }) (λ v. (v.variable, v.occurs))

    unfoldable pub shown_as : {P : Type 0} → ℕ → Dec P → ℕ
    shown_as n (yes p) = n
    shown_as n (no p) = 255

    unfoldable pub image_if : (i : ℕ) → Dec (i < length rows) → ℕ
    unfolding shown_as variable_in number find apply on_atom on_sym on_asym turned term terms_after meaning name_of inv flip
    image_if i (yes l) = shown_as (number rows (apply σ (term rows i))) (variable_in i l)
    image_if i (no n) = 255

    unfoldable pub images_of : List ℕ
    unfolding upto image_if less
    images_of = upto (length rows) (λ i. image_if i (less i (length rows)))

    images_full : length images_of ≡ length rows
    unfolding images_of
    images_full = length-upto (length rows) (λ i. image_if i (less i (length rows)))

    shown_yes : {P : Type 0} (n : ℕ) (d : Dec P) → P → shown_as n d ≡ n
    unfolding shown_as
    shown_yes n (yes p) q = refl
    shown_yes n (no p) q = absurd (p q)

    shown_no : {P : Type 0} (n : ℕ) (d : Dec P) → ¬ P → shown_as n d ≡ 255
    unfolding shown_as
    shown_no n (yes p) q = absurd (q p)
    shown_no n (no p) q = refl

    at_image : (i : ℕ) → i < length rows → (l : Dec (i < length rows))
        → (h : i < length rows) × (image_if i l ≡ shown_as (number rows (apply σ (term rows i))) (variable_in i h))
    unfolding image_if
    at_image i h (yes l) = (l, refl)
    at_image i h (no n) = absurd (n h)

    image_at : (i : ℕ) → i < length rows
        → (h : i < length rows) × (get_or images_of i 255 ≡ shown_as (number rows (apply σ (term rows i))) (variable_in i h))
    unfolding images_of
    image_at i h =
        let (l, e) = at_image i h (less i (length rows)) in
        (l, upto_at (length rows) (λ i. image_if i (less i (length rows))) 255 i h ∙ e)

  module _ (bytes : List ℕ) where
    abbrev f : ℕ → ℕ
    f s = get_or bytes s 0

    -- a source variable's image is on the sheet
    pub image_on : (σ : Subst) → Rule2 A' B' f → Rule3 A' B' f σ → (x : Term) → SourceVariable A' x → OnSheet rows (apply σ x)
    unfolding Rule2 Rule3
    image_on σ r₂ r₃ x v =
        let g = v.occurs in
        let (d, b, _) = r₂ g.node g.event g.at in
        let (e, c, q) = at_meant (term rows) B b in
        let m : term rows (message e) ≡ apply σ (message g.event) = back (message_means (term rows) e)
        ∙ (ap message q ∙ back (r₃ g.node g.event d g.at b)) in
        part_image rows good σ g.occurs (record { which = message e; inside = okB.messages _ e c; means = m })

    pub images_are : (σ : Subst) → Rule2 A' B' f → Rule3 A' B' f σ → Images rows A' σ (images_of σ)
    images_are σ r₂ r₃ =
        record {
          full = full;
          inside = λ i h v. rw (is_number i h v) (number_inside rows good (image_on σ r₂ r₃ (term rows i) v));
          image = λ i h v. rw (is_number i h v) (term_number rows good (image_on σ r₂ r₃ (term rows i) v));
          elsewhere = λ i h n. let (l, e) = image_at σ i h in e ∙ shown_no σ (number rows (apply σ (term rows i)))
              (variable_in σ i l) n;
        }
      where
        full : length (images_of σ) ≡ length rows
        full = images_full σ

        is_number : (i : ℕ) → i < length rows → SourceVariable A' (term rows i)
            → get_or (images_of σ) i 255 ≡ number rows (apply σ (term rows i))
        is_number i h v =
            let (l, e) = image_at σ i h in e ∙ shown_yes σ (number rows (apply σ (term rows i))) (variable_in σ i l) v

    -- The rules, one after another

    abbrev the : Subst
    the = found rows (asked rows A B f)

    strands_meant : length A'.strands ≡ length A.strands
    unfolding means
    strands_meant = length-map A.strands _

    pub one_byte : (length bytes ≡ length A.strands) × Rule1 A' B' f → OneByteEach A' B' bytes
    unfolding Rule1
    one_byte p =
        let full : length bytes ≡ length A'.strands = p.0 ∙ back strands_meant in
        record { full = full; inside = λ s h. p.1 s (rw full at h) }

    pub of_one_byte : OneByteEach A' B' bytes → (length bytes ≡ length A.strands) × Rule1 A' B' f
    unfolding Rule1
    of_one_byte o = (o.full ∙ strands_meant, λ s h. o.inside s (rw o.full h))

    pub same_number : (m n : ℕ) → T (eqb m n) ↔ (m ≡ n)
    same_number m n = (eqb→eq m n, λ e. rw e (eqb_refl n))

    unfoldable pub dec₁ : Dec (OneByteEach A' B' bytes)
    unfolding dec_to dec_both dec_of test₁
    dec₁ =
        dec_to (dec_both (dec_of (eqb (length bytes) (length A.strands)) (same_number (length bytes) (length A.strands)))
        (dec_of (test₁ rows A B f) (rule₁_iff rows good A B okA okB f))) one_byte of_one_byte

    unfoldable pub dec₂ : Dec (Rule2 A' B' f)
    unfolding dec_of test₂
    dec₂ = dec_of (test₂ rows A B f) (rule₂_iff rows good A B okA okB f)

    pub record Substituted : Type 0 where
      pub σ : Subst
      pub rule : Rule3 A' B' f σ

    pub served : Rule2 A' B' f → T (serves rows (asked rows A B f)) → Rule3 A' B' f the
    served r₂ t = granted_rule₃ rows good A B okA okB f r₂ the
        (serves_granted rows good (asked rows A B f) (wishes_inside rows good A B okA okB f r₂) t)

    pub serving : Rule2 A' B' f → Substituted → T (serves rows (asked rows A B f))
    serving r₂ s =
        granted_serves rows good (asked rows A B f) (wishes_inside rows good A B okA okB f r₂) s.σ
        (rule₃_granted rows good A B okA okB f r₂ s.σ s.rule)

    unfoldable pub dec₃ : Rule2 A' B' f → Dec (Rule3 A' B' f the)
    unfolding dec_of serves asked
    dec₃ r₂ = dec_of (serves rows (asked rows A B f)) (served r₂, λ r. serving r₂ (record { σ = the; rule = r }))

    unfoldable pub dec₄ : OneByteEach A' B' bytes → Dec (Rule4 A' B' f)
    unfolding dec_of test₄
    dec₄ o = dec_of (test₄ rows A B f) (rule₄_iff rows good A B okA okB f (of_one_byte o).1)

    unfoldable pub dec₅ : Dec (Rule5 A' B' f the)
    unfolding dec_of test₅ found asked
    dec₅ = dec_of (test₅ rows A B f the) (rule₅_iff rows good A B okA okB f the)

    unfoldable pub dec₆ : Dec (Rule6 A' B' f the)
    unfolding dec_of test₆ found asked
    dec₆ = dec_of (test₆ rows A B f the) (rule₆_iff rows good A B okA okB f the)

    -- what holds so far
    pub data MapJudged : Type 0 where
      broken : (k : ℕ) → FirstBroken A' B' bytes k → MapJudged
      holds : Kept A' B' bytes 6 the → Images rows A' the (images_of the) → MapJudged

    pub first_broken : (m : ℕ) → suc m ≤ 6 → {σ : Subst} → Kept A' B' bytes m σ → ¬ Upto A' B' bytes (suc m)
        → FirstBroken A' B' bytes (suc m)
    first_broken m l {σ} k n =
        record { rule = l; hold = λ j h. upto_less A' B' bytes j m (omega arith) (record { σ = σ; kept = k }); breaks = n }

    pub kept₀ : Kept A' B' bytes 0 plain
    kept₀ =
        record {
          strands = λ h. absurd (omega arith);
          directions = λ h. absurd (omega arith);
          messages = λ h. absurd (omega arith);
          order = λ h. absurd (omega arith);
          non = λ h. absurd (omega arith);
          uniq = λ h. absurd (omega arith);
        }

    -- The rules one after another: that 5 and 6 do not hang on the substitution rests on where the atoms' variables occur
    module _ (occur : AtomsOccur A') where
      module _ (r₁ : OneByteEach A' B' bytes) where
        pub kept₁ : Kept A' B' bytes 1 plain
        kept₁ =
            record {
              strands = λ h. r₁;
              directions = λ h. absurd (omega arith);
              messages = λ h. absurd (omega arith);
              order = λ h. absurd (omega arith);
              non = λ h. absurd (omega arith);
              uniq = λ h. absurd (omega arith);
            }

        module _ (r₂ : Rule2 A' B' f) where
          pub kept₂ : Kept A' B' bytes 2 plain
          kept₂ =
              record {
                strands = λ h. r₁;
                directions = λ h. r₂;
                messages = λ h. absurd (omega arith);
                order = λ h. absurd (omega arith);
                non = λ h. absurd (omega arith);
                uniq = λ h. absurd (omega arith);
              }

          module _ (r₃ : Rule3 A' B' f the) where
            pub kept₃ : Kept A' B' bytes 3 the
            kept₃ =
                record {
                  strands = λ h. r₁;
                  directions = λ h. r₂;
                  messages = λ h. r₃;
                  order = λ h. absurd (omega arith);
                  non = λ h. absurd (omega arith);
                  uniq = λ h. absurd (omega arith);
                }

            module _ (r₄ : Rule4 A' B' f) where
              pub kept₄ : Kept A' B' bytes 4 the
              kept₄ =
                  record {
                    strands = λ h. r₁;
                    directions = λ h. r₂;
                    messages = λ h. r₃;
                    order = λ h. r₄;
                    non = λ h. absurd (omega arith);
                    uniq = λ h. absurd (omega arith);
                  }

              -- rules 5 and 6 do not hang on the substitution
              pub upto₅ : Upto A' B' bytes 5 → Rule5 A' B' f the
              unfolding Rule5
              upto₅ u t k =
                  rw (atoms_agree A' B' f the u.σ r₂ r₃ (u.kept.messages (omega arith)) t (occur.non t k))
                  (u.kept.non (omega arith) t k)

              pub upto₆ : Upto A' B' bytes 6 → Rule6 A' B' f the
              unfolding Rule6
              upto₆ u t k =
                  rw (atoms_agree A' B' f the u.σ r₂ r₃ (u.kept.messages (omega arith)) t (occur.uniq t k))
                  (u.kept.uniq (omega arith) t k)

              unfoldable pub judge₆ : Rule5 A' B' f the → Dec (Rule6 A' B' f the) → MapJudged
              judge₆ r₅ (yes r₆) =
                  holds (record {
                    strands = λ h. r₁;
                    directions = λ h. r₂;
                    messages = λ h. r₃;
                    order = λ h. r₄;
                    non = λ h. r₅;
                    uniq = λ h. r₆;
                  }) (images_are the r₂ r₃)
              judge₆ r₅ (no n) =
                  broken 6 (first_broken 5 (omega arith) (record {
                    strands = λ h. r₁;
                    directions = λ h. r₂;
                    messages = λ h. r₃;
                    order = λ h. r₄;
                    non = λ h. r₅;
                    uniq = λ h. absurd (omega arith);
                  }) (λ u. n (upto₆ u)))

              unfoldable pub judge₅ : Dec (Rule5 A' B' f the) → MapJudged
              unfolding judge₆ dec₆
              judge₅ (no n) = broken 5 (first_broken 4 (omega arith) kept₄ (λ u. n (upto₅ u)))
              judge₅ (yes r₅) = judge₆ r₅ dec₆

            unfoldable pub judge₄ : Dec (Rule4 A' B' f) → MapJudged
            unfolding judge₅ dec₅
            judge₄ (no n) = broken 4 (first_broken 3 (omega arith) kept₃ (λ u. n (u.kept.order (omega arith))))
            judge₄ (yes r₄) = judge₅ r₄ dec₅

          pub no_substitution : ¬ Rule3 A' B' f the → ¬ Upto A' B' bytes 3
          no_substitution n u = n (served r₂ (serving r₂ (record { σ = u.σ; rule = u.kept.messages (omega arith) })))

          unfoldable pub judge₃ : Dec (Rule3 A' B' f the) → MapJudged
          unfolding judge₄ dec₄
          judge₃ (no n) = broken 3 (first_broken 2 (omega arith) kept₂ (no_substitution n))
          judge₃ (yes r₃) = judge₄ r₃ (dec₄ r₁)

        unfoldable pub judge₂ : Dec (Rule2 A' B' f) → MapJudged
        unfolding judge₃ dec₃
        judge₂ (no n) = broken 2 (first_broken 1 (omega arith) kept₁ (λ u. n (u.kept.directions (omega arith))))
        judge₂ (yes r₂) = judge₃ r₂ (dec₃ r₂)

      unfoldable pub judge₁ : Dec (OneByteEach A' B' bytes) → MapJudged
      unfolding judge₂ dec₂
      judge₁ (no n) = broken 1 (first_broken 0 (omega arith) kept₀ (λ u. n (u.kept.strands (omega arith))))
      judge₁ (yes r₁) = judge₂ r₁ dec₂

      unfoldable pub judge_map : MapJudged
      unfolding judge₁ dec₁
      judge_map = judge₁ dec₁

-- The question

module _ (source target : ℕ) (bytes lent : List ℕ) (s : Sheet) (sound : Sound s) (x : Drawing × Drawing)
    (h : HasSkeletons source target s x) where
  pub same_rows : x.1.rows ≡ x.0.rows
  same_rows = back h.to.rows ∙ h.from.rows

  pub good_rows : Good x.0.rows
  good_rows = rw h.from.rows at sound.good

  pub source_on : OnTable x.0.rows x.0.skeleton
  source_on = sound.drawings source x.0 h.from

  pub target_on : OnTable x.0.rows x.1.skeleton
  target_on = rw same_rows at (sound.drawings target x.1 h.to)

  pub source_occur : AtomsOccur (means (term x.0.rows) x.0.skeleton)
  unfolding meant
  source_occur = skeleton_atoms (meant x.0) (sound.skeletons source x.0 h.from)

  abbrev target_meant : Skeleton Term
  target_meant = means (term x.0.rows) x.1.skeleton

  pub target_is : meant x.1 ≡ target_meant
  unfolding meant
  target_is = ap (λ rows. means (term rows) x.1.skeleton) same_rows

  unfoldable pub map_told : MapJudged x.0.rows good_rows x.0.skeleton x.1.skeleton source_on target_on bytes
      → Told (SaysMap source target bytes lent) x
  unfolding images_of found asked over meant
  map_told (broken k b) =
      let t : FirstBroken (meant x.0) (meant x.1) bytes k = rw target_is b in
      record { answer = breaks k; after = lent; is = no_map t }
  map_told (holds k i) =
      let σ : Subst = found x.0.rows (asked x.0.rows x.0.skeleton x.1.skeleton (λ s. get_or bytes s 0)) in
      let images : List ℕ = images_of x.0.rows good_rows x.0.skeleton x.1.skeleton source_on target_on σ in
      let t : Kept (meant x.0) (meant x.1) bytes 6 σ = rw target_is k in
      record { answer = is_map; after = over images lent; is = yes_map t i }

  unfoldable pub told_map : Told (SaysMap source target bytes lent) x
  unfolding map_told judge_map
  told_map = map_told (judge_map x.0.rows good_rows x.0.skeleton x.1.skeleton source_on target_on bytes source_occur)

module _ (source target : ℕ) (bytes lent : List ℕ) (s : Sheet) (sound : Sound s) where
  unfoldable pub image_room : (x : Drawing × Drawing) → HasSkeletons source target s x
      → Dec (ImageRoom source target bytes lent x)
  unfolding dec_of ImageRoom
  image_room x h = dec_of (leb (length x.0.rows) (length lent)) (leb→le _ _, le→leb _ _)

  unfoldable pub map_had : Had (HasSkeletons source target) (ImageRoom source target bytes lent)
      (SaysMap source target bytes lent) lent (Verdict.accepted s)
  unfolding had image_room told_map meets_skeletons
  map_had =
      had (HasSkeletons source target) (ImageRoom source target bytes lent) (SaysMap source target bytes lent) lent s image_room
      (λ x h _. told_map source target bytes lent s sound x h) (meets_skeletons source target s)
