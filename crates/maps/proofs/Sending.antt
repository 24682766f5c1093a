-- Rules 5 and 6, atom by atom. Assumes nothing.
use mathlib.Core.Path.{◌≡◌, refl, sym, ap, ◌∙◌}
use mathlib.Core.Bool.{Bool, true, false, true≢false}
use mathlib.Core.List.Memᴰ
use mathlib.Core.List.{List}
use mathlib.Core.Logic.{◌↔◌}
use Prim.Native.Nat.{ℕ, ◌<◌, ◌≤◌}
use native.Mathlib.Omega.{arith}
use lib.Dec.{T}
use lib.ListN.{length, get_or}
use Rattle.std.proofs.Common.{Option, Some, None}
use Rattle.terms.specs.declared.Term as Number
use Rattle.terms.specs.declared.Node as Numbered
use Rattle.terms.specs.declared.TermSet.{TermSet}
use Rattle.terms.specs.Set.{mem, IsSetOf}
use Rattle.model.specs.Term.{Term}
use Rattle.model.specs.Subst.{Subst, apply}
use Rattle.model.specs.Table.{Row, term}
use Rattle.model.specs.Reading.{an_atom}
use Rattle.model.specs.Skeleton.{Skeleton, means}
use Rattle.model.specs.Says.{node_of}
use Rattle.model.specs.Maps.{move, Rule5, Rule6}
use Rattle.tables.proofs.Look.{count_is}
use Rattle.theory.specs.GoodTable.{Good}
use Rattle.theory.specs.Numbers.{term_injective}
use Rattle.theory.specs.OnSheet.{OnSheet}
use Rattle.theory.proofs.Faults.{occurs_test}
use Rattle.theory.specs.MapLaws.{VariablesOccur, AtomsOccur, skeleton_atoms}
use Rattle.tables.specs.Layout.{term_count}
use Rattle.tables.specs.Tables.{byte, rows_in, Filled}
use Rattle.matching.specs.Matches.{Takes}
use Rattle.maps.specs.Rules.{Tells5, Tells6, IsOrigins}
use Rattle.maps.specs.Images.{Gives, Known, Imaged}
use Rattle.maps.specs.Atoms.{In, Goes, Moved, GoesIn, OriginGoes, Finds, Matched, Judges5, Judges6}
use Rattle.maps.proofs.Answers.{granted, refused}
use Rattle.maps.proofs.Found.{on_sheet, off_sheet}

-- An atom with its image

module _ {rows : List Row} (good : Good rows) (σ : Subst) (a i : ℕ) (h : i < length rows)
    (means : term rows i ≡ apply σ (term rows a)) (to : TermSet) {r : Bool} where
  pub goes_on : r ≡ mem to i → (r ≡ true) ↔ GoesIn rows to σ a
  goes_on e = (
    λ q. record { which = i; inside = h; member = sym e ∙ q; means = means },
    λ w.
        let z : w.which ≡ i = term_injective rows good w.which i w.inside h (w.means ∙ sym means) in
        e ∙ (ap (mem to) (sym z) ∙ w.member),
  )

  pub origin_on : (map : List ℕ) (origins targets : List (Option Numbered.Node))
      → (r ≡ true) ↔ ((mem to i ≡ true) × Goes map (get_or origins a None) (get_or targets i None))
      → (r ≡ true) ↔ OriginGoes rows to map origins targets σ a
  origin_on map origins targets goes = (
    λ q. let (m, o) = goes.0 q in record { which = i; inside = h; member = m; means = means; origin = o },
    λ w.
        let z : w.which ≡ i = term_injective rows good w.which i w.inside h (w.means ∙ sym means) in
        goes.1 (ap (mem to) (sym z) ∙ w.member, rw z at w.origin),
  )

-- a member of a set is on the sheet
module _ {rows : List Row} {t : Term} where
  pub in_on : {set : TermSet} → In rows set t → OnSheet rows t
  in_on w = record { which = w.which; inside = w.inside; means = w.means }

  pub moved_on : {set : TermSet} {map : List ℕ} {origins : List (Option Numbered.Node)} {start : Option Numbered.Node}
      → Moved rows set map origins start t → OnSheet rows t
  moved_on w = record { which = w.which; inside = w.inside; means = w.means }

-- All atoms

module _ (rows : List Row) (images : List ℕ) (from : TermSet) (P : Subst → ℕ → Type 0) where
  -- each member is an atom whose variables have images
  abbrev AllKnown : Type 0
  AllKnown = (i : ℕ) → mem from i ≡ true → Known rows images i

  -- the answer r says whether the members below n have the property
  pub record All (n : ℕ) (r : Bool) : Type 0 where
    pub is : (σ : Subst) → Gives rows images σ → AllKnown → (r ≡ true) ↔ ((i : ℕ) → i < n → mem from i ≡ true → P σ i)

-- A walk over the members of a set says whether they have the property that the test asks of each and its image
module _ (rows : List Row) (images : List ℕ) (from : TermSet) (Answers : Number.Term → Number.Term → Bool → Type 0) (n : ℕ)
    (P : Subst → ℕ → Type 0) (there : (σ : Subst) (a : ℕ) → P σ a → OnSheet rows (apply σ (term rows a)))
    (tests : (σ : Subst) (a : ℕ) (i : Number.Term) (r : Bool) → mem from a ≡ true → i.0 < length rows
    → term rows i.0 ≡ apply σ (term rows a) → Answers (record { 0 = a }) i r → (r ≡ true) ↔ P σ a) where
  module _ (σ : Subst) (g : Gives rows images σ) (k : AllKnown rows images from P) where
    missed : (a : ℕ) → mem from a ≡ true → (o : Option Number.Term) → Imaged rows images a o
        → ((i : Number.Term) → o ≡ Some i → Answers (record { 0 = a }) i false) → ¬ P σ a
    missed a m None image f p = off_sheet (image.is σ g (k a m)) (there σ a p)
    missed a m (Some i) image f p =
        let (h, means) = on_sheet (image.is σ g (k a m)) in
        true≢false (sym ((tests σ a i false m h means (f i refl)).1 p))

    says : (r : Bool) → Finds rows images from Answers n r → (r ≡ true) ↔ ((i : ℕ) → i < n → mem from i ≡ true → P σ i)
    says true finds =
        granted (λ a l m.
        let (i, image, answer) = finds.all refl a l m in
        let (h, means) = on_sheet (image.is σ g (k a m)) in
        (tests σ a i true m h means answer).0 refl)
    says false finds =
        let w = finds.not_all refl in
        refused (λ all. missed w.which w.member w.found w.imaged w.missed (all w.which w.below w.member))

  pub found_all : {r : Bool} → Finds rows images from Answers n r → All rows images from P n r
  found_all {r} finds = record { is = λ σ g k. says σ g k r finds }

-- Where a node goes, of two nodes that are known
meet : {map : List ℕ} {start end : Option Numbered.Node} {n m : Numbered.Node} → start ≡ Some n → end ≡ Some m → Goes map start end
    → move (λ s. get_or map s 0) (node_of n) ≡ node_of m
meet {map} {n = n} {m = m} s e w =
    let p : w.from ≡ n = cc in
    let q : w.to ≡ m = cc in
    rw (p, q) at w.moves

-- What rule 3 leaves serves every atom of the source

module _ {rows : List Row} (good : Good rows) (few : length rows ≤ 200) {A B : Skeleton ℕ} {map images : List ℕ}
    (matched : Matched rows A B map images) where
  abbrev A' : Skeleton Term
  A' = means (term rows) A

  pub gives : (σ : Subst) → Takes rows A B map σ → Gives rows images σ
  gives σ takes =
      record {
        image = λ i h k. elim (occurs_test rows good A matched.source_on i h) [
          | yes e ↦ matched.matches.image refl σ takes i h e
          | no n ↦ absurd (omega (arith, matched.matches.elsewhere refl i h n))
        ];
      }

  known : {i : ℕ} → T (an_atom rows i) → VariablesOccur A' (term rows i) → Known rows images i
  unfolding VariablesOccur
  known a occur = record { atom = a; variables = λ x h v o. matched.matches.inside refl x h (occur (term rows x) v o) }

  occur : AtomsOccur A'
  occur = skeleton_atoms A' matched.source

  pub known_non : {from : TermSet} → IsSetOf A.non from → (i : ℕ) → mem from i ≡ true → Known rows images i
  unfolding means
  known_non is i m =
      let l = (is.at i).0 m in known (matched.nons i l) (occur.non (term rows i) (Memᴰ.map (term rows) l))

  pub known_uniq : {from : TermSet} → IsSetOf A.uniq from → (i : ℕ) → mem from i ≡ true → Known rows images i
  unfolding means
  known_uniq is i m =
      let l = (is.at i).0 m in known (matched.uniqs i l) (occur.uniq (term rows i) (Memᴰ.map (term rows) l))

  module _ {from to : TermSet} {r : Bool} where
    five_told : All rows images from (GoesIn rows to) (length rows) r → IsSetOf A.non from → IsSetOf B.non to
        → Tells5 rows A B map r
    unfolding Rule5 means
    five_told all source target σ takes =
        let test = all.is σ (gives σ takes) (known_non source) in (
          λ q t m.
              let (i, l, e) = Memᴰ.of_map (term rows) A.non m in
              let w = test.0 q i (matched.source_on.nons i l) ((source.at i).1 l) in
              rw (← e, ← w.means) (Memᴰ.map (term rows) ((target.at w.which).0 w.member)),
          λ five. test.1 (λ i h m.
              let (j, l, e) = Memᴰ.of_map (term rows) B.non
              (five (term rows i) (Memᴰ.map (term rows) ((source.at i).0 m))) in
              record { which = j; inside = matched.target_on.nons j l; member = (target.at j).1 l; means = e }),
        )

  module _ {from to : TermSet} {origins targets : List (Option Numbered.Node)} {r : Bool} where
    six_told : All rows images from (OriginGoes rows to map origins targets) (length rows) r → IsSetOf A.uniq from
        → IsSetOf B.uniq to
        → IsOrigins rows A origins
        → IsOrigins rows B targets
        → Tells6 rows A B map r
    unfolding Rule6 means
    six_told all source target starts ends σ takes =
        let test = all.is σ (gives σ takes) (known_uniq source) in (
          λ q t m.
              let (i, l, e) = Memᴰ.of_map (term rows) A.uniq m in
              let w = test.0 q i (matched.source_on.uniqs i l) ((source.at i).1 l) in
              let k = (target.at w.which).0 w.member in
              let (n₀, o₀, c₀) = starts.at i l in
              let (m₀, p₀, d₀) = ends.at w.which k in
              let z = meet c₀ d₀ w.origin in (
                rw (← e, ← w.means) (Memᴰ.map (term rows) k),
                λ n o.
                    let y : n ≡ node_of n₀ =
                    matched.source.one_origin (term rows i) (Memᴰ.map (term rows) l) n (node_of n₀) (rw (← e) at o) o₀ in
                    rw (← e, ← w.means, y, z) p₀,
              ),
          λ six. test.1 (λ i h m.
              let l = (source.at i).0 m in
              let (x, f) = six (term rows i) (Memᴰ.map (term rows) l) in
              let (j, k, e) = Memᴰ.of_map (term rows) B.uniq x in
              let (n₀, o₀, c₀) = starts.at i l in
              let (m₀, p₀, d₀) = ends.at j k in
              let z : move (λ s. get_or map s 0) (node_of n₀) ≡ node_of m₀ =
              matched.target.one_origin (term rows j) (Memᴰ.map (term rows) k) _ (node_of m₀) (rw (← e) at (f (node_of n₀) o₀)) p₀ in
              record {
                which = j;
                inside = matched.target_on.uniqs j k;
                member = (target.at j).1 k;
                means = e;
                origin = record { from = n₀; to = m₀; starts = c₀; ends = d₀; moves = z };
              }),
        )

module _ {t images : List ℕ} (filled : Filled t) (good : Good (rows_in t)) where
  pub judged_five : {from to : TermSet} {r : Bool} → All (rows_in t) images from (GoesIn (rows_in t) to) (byte t term_count) r
      → Judges5 (rows_in t) images from to r
  judged_five all =
      record { tells = λ A B map matched. five_told good (omega (arith, count_is t, filled.terms)) matched (rw (count_is t) all) }

  pub judged_six : {map : List ℕ} {from to : TermSet} {origins targets : List (Option Numbered.Node)} {r : Bool}
      → All (rows_in t) images from (OriginGoes (rows_in t) to map origins targets) (byte t term_count) r
      → Judges6 (rows_in t) images map from to origins targets r
  judged_six all =
      record { tells = λ A B matched. six_told good (omega (arith, count_is t, filled.terms)) matched (rw (count_is t) all) }
