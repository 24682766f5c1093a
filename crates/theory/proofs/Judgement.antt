-- The verdict on a sheet that was read: there is one, there is no second, and what an accepted sheet is.
use Rattle.std.proofs.Math.Path.{◌≡◌, sym as back}
use Rattle.std.specs.Prelude.{refl, Bool, true, false, ◌⊎◌, List, ℕ, ◌<◌, length}
use Rattle.std.proofs.Common.{ap, ◌∙◌, true≢false, inl}
use Rattle.std.proofs.Math.Logic.{inr}
use mathlib.Core.List.Memᴰ
use Rattle.std.proofs.Math.Option.{Option, none, some}
use native.Mathlib.Omega.{arith}
use Rattle.std.proofs.Math.Decide.{dec_lt}
use Rattle.std.proofs.Math.ListN.{get_elem?}
use Rattle.model.specs.Term.{Term}
use Rattle.model.specs.Carry.{Occurs}
use Rattle.model.specs.Table.{Row, Inv, row, term, is_key, kind}
use Rattle.model.specs.Skeleton.{send, recv, message, Node, Skeleton, At, means}
use Rattle.model.specs.Events.{Before, Origin, InSomeEvent}
use Rattle.model.specs.Sheet.{Sheet, Verdict, refused, accepted, Drawing, meant, HasSkeleton}
use Rattle.model.specs.Accepting.{Lacking, Carried, Missing, NonRight, UniqRight, Right, NonTurn, UniqTurn, Fault, a_cycle, missing, carried, not_one, early, Accepting, lacks, faulty}
use Rattle.theory.specs.Parts.{carried_occurs, occurs_after}
use Rattle.theory.specs.GoodTable.{IsKey, Good, row_same, key_is}
use Rattle.theory.specs.Skeletons.{IsSkeleton}
use Rattle.theory.specs.Happenings.{at_meant, before_means, before_meant, recv_means}
use Rattle.theory.proofs.Occurring.{occurs_on}
use Rattle.theory.specs.Deciding.{dec_of, Below, dec_below, First, first_of}
use Rattle.theory.proofs.Faults.{occurs_test, FaultAt, judge_skeleton}
use Rattle.theory.specs.NoSecond.{one_drawing}
use Rattle.model.specs.Accepting as Acc
use Rattle.theory.specs.Places.{inside_list}
use Rattle.theory.specs.OnTable.{OnTable, node_inside, before}
use Rattle.theory.proofs.OnTable.{before_iff}
use Rattle.theory.specs.Judgement.{Raw, Sound}

-- 9

unfoldable pub is_true : (b : Bool) → Dec (b ≡ true)
is_true true = yes refl
is_true false = no (λ e. true≢false (back e))

module _ (rows : List Row) where
  unfoldable pub inverse_test : (i : ℕ) → Dec (Below (λ j. row rows j ≡ Inv i) (length rows))
  unfolding dec_below row_same
  inverse_test i = dec_below (λ j. row rows j ≡ Inv i) (length rows) (λ j l. row_same (row rows j) (Inv i))

  unfoldable pub lacking_or : (i : ℕ) → i < length rows → Dec (is_key (row rows i) ≡ true)
      → Dec (Below (λ j. row rows j ≡ Inv i) (length rows))
      → Lacking rows i ⊎ (¬ Lacking rows i)
  lacking_or i l (no n) d = inr (λ k. n k.a_key)
  lacking_or i l (yes k) (yes b) = inr (λ g. g.no_inverse b.which b.inside b.holds)
  lacking_or i l (yes k) (no n) =
      inl (record { a_term = l; a_key = k; no_inverse = λ j h e. n (record { which = j; inside = h; holds = e }) })

module _ (s : Sheet) (raw : Raw s) (none_lacks : (i : ℕ) → ¬ Lacking s.rows i) where
  pub good_of : Good s.rows
  good_of =
      record {
        earlier = raw.earlier;
        sorted = raw.sorted;
        distinct = raw.distinct;
        inverses = λ i l k. go i l k (inverse_test s.rows i);
      }
    where
      go : (i : ℕ) → i < length s.rows → IsKey (row s.rows i)
          → Dec (Below (λ j. row s.rows j ≡ Inv i) (length s.rows))
          → (j : ℕ) × (j < length s.rows) × (row s.rows j ≡ Inv i)
      go i l k (yes b) = (b.which, b.inside, b.holds)
      go i l k (no n) =
          absurd (none_lacks i (record {
            a_term = l;
            a_key = key_is k;
            no_inverse = λ j h e. n
                (record { which = j; inside = h; holds = e });
          }))

-- There is a verdict

module _ (s : Sheet) (raw : Raw s) where
  pub record FaultyAt (k : ℕ) : Type 0 where
    pub drawing : Drawing
    pub has : HasSkeleton k s drawing
    pub number : ℕ
    pub place : ℕ
    pub fault : Fault drawing number place

  abbrev pub RightAt : ℕ → Type 0
  RightAt k = (D : Drawing) → HasSkeleton k s D → Right D

  pub record Judged : Type 0 where
    pub verdict : Verdict
    pub is : Accepting s verdict

  module _ (none_lacks : (i : ℕ) → ¬ Lacking s.rows i) where
    abbrev drawn : Skeleton ℕ → Drawing
    drawn K = record { rows = s.rows; skeleton = K }

    unfoldable pub right_or_not : (k : ℕ) (K : Skeleton ℕ) (e : get_elem? s.skeletons k ≡ some K)
        → FaultAt s.rows (good_of s raw none_lacks) K (raw.drawings k (drawn K) (record { rows = refl; skeleton = e }))
        ⊎ Right (drawn K)
        → FaultyAt k ⊎ RightAt k
    right_or_not k K e (inl f) = inl (record {
      drawing = drawn K;
      has = record { rows = refl; skeleton = e };
      number = f.number;
      place = f.place;
      fault = f.is;
    })
    right_or_not k K e (inr r) =
        inr (λ D h. let q : drawn K ≡ D = one_drawing k s (drawn K) D (record { rows = refl; skeleton = e }) h in rw q at r)

    unfoldable pub judge_at : (k : ℕ) (o : Option (Skeleton ℕ)) → get_elem? s.skeletons k ≡ o → FaultyAt k ⊎ RightAt k
    unfolding right_or_not judge_skeleton
    judge_at k none e = inr (λ D h. let q = back e ∙ h.skeleton in let z : ◌≡◌ {A = ℕ} 0 1 = cc in absurd (omega arith))
    judge_at k (some K) e =
        right_or_not k K e (judge_skeleton s.rows (good_of s raw none_lacks) K
        (raw.drawings k (drawn K) (record { rows = refl; skeleton = e })))

    unfoldable pub judge_skeletons : First FaultyAt RightAt (length s.skeletons)
        ⊎ ((k : ℕ) → k < length s.skeletons → RightAt k) → Judged
    judge_skeletons (inl f) =
        record {
          verdict = refused (record { number = f.holds.number; place = f.holds.place; skeleton = f.which });
          is = faulty none_lacks f.holds.has (λ j E l h. f.before j l E h) f.holds.fault;
        }
    judge_skeletons (inr g) =
        record { verdict = accepted s; is = Acc.right none_lacks (λ k D h. g k (inside_list s.skeletons k h.skeleton) D h) }

  unfoldable pub judge_terms : First (Lacking s.rows) (λ i. ¬ Lacking s.rows i) (length s.rows)
      ⊎ ((i : ℕ) → i < length s.rows → ¬ Lacking s.rows i) → Judged
  unfolding judge_skeletons judge_at first_of
  judge_terms (inl f) =
      record { verdict = refused (record { number = 9; place = f.which; skeleton = 0 }); is = lacks f.holds f.before }
  judge_terms (inr g) =
      let none_lacks : (i : ℕ) → ¬ Lacking s.rows i = λ i h. g i h.a_term h in
      judge_skeletons none_lacks (first_of FaultyAt RightAt (length s.skeletons)
      (λ k l. judge_at none_lacks k (get_elem? s.skeletons k) refl))

  unfoldable pub judge : Judged
  unfolding judge_terms first_of lacking_or is_true is_key kind inverse_test
  judge =
      judge_terms (first_of (Lacking s.rows) (λ i. ¬ Lacking s.rows i) (length s.rows)
      (λ i l. lacking_or s.rows i l (is_true (is_key (row s.rows i))) (inverse_test s.rows i)))

-- There is no second

-- an atom that is carried has its variables in an event
carried_present : {K : Skeleton Term} {t : Term} → Carried K t → ¬ Missing K t
carried_present c u =
    u.in_no_event (record {
      node = c.node;
      event = c.event;
      at = c.at;
      occurs = occurs_after u.occurs
          (carried_occurs c.carries);
    })

record SameFault (m n a b : ℕ) : Type 0 where
  number : m ≡ n
  place : a ≡ b

module _ (D : Drawing) where
  same_turn : (P : ℕ → Type 0) (a b : ℕ) → (b < a → ⊥) → (a < b → ⊥) → a ≡ b
  same_turn P a b f g = go (dec_lt a b) (dec_lt b a)
    where
      go : Dec (a < b) → Dec (b < a) → a ≡ b
      go (yes h) _ = absurd (g h)
      go (no h) (yes k) = absurd (f k)
      go (no h) (no k) = omega arith

  non_turns : {a b : ℕ} → NonTurn D a → NonTurn D b → ¬ NonRight D a → ¬ NonRight D b → a ≡ b
  non_turns {a} {b} s t n m = same_turn (NonRight D) a b (λ l. m (s.lower b t.listed l)) (λ l. n (t.lower a s.listed l))

  uniq_turns : {a b : ℕ} → UniqTurn D a → UniqTurn D b → ¬ UniqRight D a → ¬ UniqRight D b → a ≡ b
  uniq_turns {a} {b} s t n m = same_turn (UniqRight D) a b (λ l. m (s.lower b t.listed l)) (λ l. n (t.lower a s.listed l))

  fault_one : {m n a b : ℕ} → Fault D m a → Fault D n b → SameFault m n a b
  fault_one (a_cycle c) (a_cycle d) = record { number = refl; place = refl }
  fault_one (a_cycle c) (missing t u) = absurd (t.acyclic c)
  fault_one (a_cycle c) (carried t u) = absurd (t.acyclic c)
  fault_one (a_cycle c) (not_one t u) = absurd (t.acyclic c)
  fault_one (a_cycle c) (early t o u) = absurd (t.acyclic c)
  fault_one (missing s u) (a_cycle d) = absurd (s.acyclic d)
  fault_one (missing s u) (missing t v) = record { number = refl; place = non_turns s t (λ r. r.present u) (λ r. r.present v) }
  fault_one (missing s u) (carried t v) =
      let e = non_turns s t (λ r. r.present u) (λ r. r.uncarried v) in
      absurd (carried_present v (rw e at u))
  fault_one (missing s u) (not_one t v) = absurd ((t.nons _ s.listed).present u)
  fault_one (missing s u) (early t o v) = absurd ((t.nons _ s.listed).present u)
  fault_one (carried s u) (a_cycle d) = absurd (s.acyclic d)
  fault_one (carried s u) (missing t v) =
      let e = non_turns s t (λ r. r.uncarried u) (λ r. r.present v) in
      absurd (carried_present (rw e at u) v)
  fault_one (carried s u) (carried t v) =
      record { number = refl; place = non_turns s t (λ r. r.uncarried u) (λ r. r.uncarried v) }
  fault_one (carried s u) (not_one t v) = absurd ((t.nons _ s.listed).uncarried u)
  fault_one (carried s u) (early t o v) = absurd ((t.nons _ s.listed).uncarried u)
  fault_one (not_one s u) (a_cycle d) = absurd (s.acyclic d)
  fault_one (not_one s u) (missing t v) = absurd ((s.nons _ t.listed).present v)
  fault_one (not_one s u) (carried t v) = absurd ((s.nons _ t.listed).uncarried v)
  fault_one (not_one s u) (not_one t v) =
      record { number = refl; place = uniq_turns s t (λ r. u r.one_strand) (λ r. v r.one_strand) }
  fault_one (not_one s u) (early t o v) =
      let e = uniq_turns s t (λ r. u r.one_strand) (λ r. r.in_time v) in
      absurd (u (rw e o))
  fault_one (early s o u) (a_cycle d) = absurd (s.acyclic d)
  fault_one (early s o u) (missing t v) = absurd ((s.nons _ t.listed).present v)
  fault_one (early s o u) (carried t v) = absurd ((s.nons _ t.listed).uncarried v)
  fault_one (early s o u) (not_one t v) =
      let e = uniq_turns s t (λ r. r.in_time u) (λ r. v r.one_strand) in
      absurd (v (rw e at o))
  fault_one (early s o u) (early t p v) = record { number = refl; place = uniq_turns s t (λ r. r.in_time u) (λ r. r.in_time v) }

  fault_wrong : {n a : ℕ} → Fault D n a → ¬ Right D
  fault_wrong (a_cycle c) r = r.acyclic c
  fault_wrong (missing t u) r = (r.nons _ t.listed).present u
  fault_wrong (carried t u) r = (r.nons _ t.listed).uncarried u
  fault_wrong (not_one t u) r = u (r.uniqs _ t.listed).one_strand
  fault_wrong (early t o u) r = (r.uniqs _ t.listed).in_time u

module _ (s : Sheet) where
  same_lack : (i j : ℕ) → Lacking s.rows i → Lacking s.rows j → ((l : ℕ) → l < i → ¬ Lacking s.rows l)
      → ((l : ℕ) → l < j → ¬ Lacking s.rows l)
      → i ≡ j
  same_lack i j h k f g = go (dec_lt i j) (dec_lt j i)
    where
      go : Dec (i < j) → Dec (j < i) → i ≡ j
      go (yes l) _ = absurd (g i l h)
      go (no l) (yes m) = absurd (f j m k)
      go (no l) (no m) = omega arith

  same_place : (k l : ℕ) (D E : Drawing) → HasSkeleton k s D → HasSkeleton l s E → ¬ Right D → ¬ Right E
      → ((j : ℕ) (F : Drawing) → j < k → HasSkeleton j s F → Right F)
      → ((j : ℕ) (F : Drawing) → j < l → HasSkeleton j s F → Right F)
      → k ≡ l
  same_place k l D E h g n m f e = go (dec_lt k l) (dec_lt l k)
    where
      go : Dec (k < l) → Dec (l < k) → k ≡ l
      go (yes b) _ = absurd (n (e k D b h))
      go (no b) (yes c) = absurd (m (f l E c g))
      go (no b) (no c) = omega arith

  pub accepting_one : {v w : Verdict} → Accepting s v → Accepting s w → v ≡ w
  accepting_one (lacks {i} h f) (lacks {i = j} k g) =
      ap (λ p. refused (record { number = 9; place = p; skeleton = 0 })) (same_lack i j h k f g)
  accepting_one (lacks h f) (faulty n _ _ _) = absurd (n _ h)
  accepting_one (lacks h f) (Acc.right n _) = absurd (n _ h)
  accepting_one (faulty n _ _ _) (lacks h f) = absurd (n _ h)
  accepting_one (faulty {k} {number = m} {place = a} {D} n h f x) (faulty {k = l} {number = m'} {place = b} {D = E} n' g e y) =
      let q : k ≡ l = same_place k l D E h g (fault_wrong D x) (fault_wrong E y) f e in
      let r : D ≡ E = one_drawing k s D E h (rw q g) in
      let z : SameFault m m' a b = fault_one D x (rw r y) in
      λ i. refused (record { number = z.number i; place = z.place i; skeleton = q i })
  accepting_one (faulty {D} n h f x) (Acc.right _ g) = absurd (fault_wrong D x (g _ D h))
  accepting_one (Acc.right n g) (lacks h f) = absurd (n _ h)
  accepting_one (Acc.right _ g) (faulty {D} n h f x) = absurd (fault_wrong D x (g _ D h))
  accepting_one (Acc.right n g) (Acc.right _ _) = refl

-- What an accepted sheet is

stable : {P : Type 0} → Dec P → ¬ (¬ P) → P
stable (yes p) n = p
stable (no m) n = absurd (n m)

module _ (K : Skeleton Term) where
  -- the first event that carries a term is one
  same_origin : {t : Term} (m n : Node) → Origin K t m → Origin K t n → m.strand ≡ n.strand → m ≡ n
  unfolding message
  same_origin {t} m n o p e = go (dec_lt m.position n.position) (dec_lt n.position m.position)
    where
      go : Dec (m.position < n.position) → Dec (n.position < m.position) → m ≡ n
      go (yes h) _ =
          let a : At K (record { strand = n.strand; position = m.position }) (send o.said) =
          record { is = rw e at o.at.is } in
          absurd (p.first m.position (send o.said) h a o.carries)
      go (no h) (yes k) =
          let a : At K (record { strand = m.strand; position = n.position }) (send p.said) =
          record { is = rw (← e) at p.at.is } in
          absurd (o.first n.position (send p.said) k a p.carries)
      go (no h) (no k) =
          let q : m.position ≡ n.position = omega arith in
          λ i. record { strand = e i; position = q i }

module _ (rows : List Row) (good : Good rows) (K : Skeleton ℕ) (ok : OnTable rows K) where
  abbrev D : Drawing
  D = record { rows = rows; skeleton = K }

  abbrev L : Skeleton Term
  L = means (term rows) K

  before_stable : (m n : Node) (u : Term) → At L n (recv u) → ¬ (¬ Before L m n) → Before L m n
  unfolding message
  before_stable m n u a f =
      let (e, b, q) = at_meant (term rows) K a in
      let (w, z, y) = recv_means (term rows) e q in
      let c : At K n (recv w) = rw z at b in
      before_means (term rows) K
      (stable (dec_of (before K m n) (before_iff rows K ok m n (ok.positions n (recv w) c) (node_inside rows K ok c)))
      (λ g. f (λ h. g (before_meant (term rows) K h))))

  occurs_stable : (t : ℕ) → t < length rows → (x : Term) → Occurs x (term rows t) → ¬ (¬ InSomeEvent L x) → InSomeEvent L x
  occurs_stable t h x o f =
      let s = occurs_on rows good o (record { which = t; inside = h; means = refl }) in
      rw s.means at (stable (occurs_test rows good K ok s.which s.inside) (rw s.means f))

  pub right_skeleton : Right D → IsSkeleton (meant D)
  unfolding meant means message
  right_skeleton r =
      record {
        acyclic = λ n b. r.acyclic (record { node = n; cycle = b });
        non_carried = λ t m n e a c.
            let (i, l, q) = Memᴰ.of_map (term rows) K.non m in
            (r.nons i l).uncarried (record { node = n; event = e; at = a; carries = rw q c });
        non_occurs = λ t m x v o.
            let (i, l, q) = Memᴰ.of_map (term rows) K.non m in
            let p : Occurs x (term rows i) = rw q o in
            occurs_stable i (ok.nons i l) x p (λ n. (r.nons i l).present
            (record { part = x; variable = v; occurs = p; in_no_event = n }));
        an_origin = λ t m.
            let (i, l, q) = Memᴰ.of_map (term rows) K.uniq m in
            let o = (r.uniqs i l).one_strand in
            (record { strand = o.strand; position = o.originates.position }, rw q at o.originates.origin);
        one_origin = λ t m a b x y.
            let (i, l, q) = Memᴰ.of_map (term rows) K.uniq m in
            let o = (r.uniqs i l).one_strand in
            let x' : Origin L (term rows i) a = rw q x in
            let y' : Origin L (term rows i) b = rw q y in
            same_origin L a b x y (o.only a.strand (record { position = a.position; origin = x' }) ∙ back
            (o.only b.strand (record { position = b.position; origin = y' })));
        after_origin = λ t m a b u x y c.
            let (i, l, q) = Memᴰ.of_map (term rows) K.uniq m in
            before_stable a b u y λ n.
            (r.uniqs i l).in_time (record {
              source = a;
              origin = rw q x;
              node = b;
              heard = u;
              at = y;
              carries = rw q c;
              not_after = n;
            });
      }

-- what a sheet is accepted by
abbrev Rights : Sheet → Type 0
Rights s = ((i : ℕ) → ¬ Lacking s.rows i) × ((k : ℕ) (D : Drawing) → HasSkeleton k s D → Right D)

accepted_as : {s : Sheet} {v : Verdict} → Accepting s v → (t : Sheet) → v ≡ accepted t → Rights s
accepted_as (Acc.right n g) t e = (n, g)
accepted_as (lacks a b) t e = absurd cc
accepted_as (faulty a b c d) t e = absurd cc

pub accepted_rights : {s : Sheet} → Accepting s (accepted s) → ((i : ℕ) → ¬ Lacking s.rows i)
    × ((k : ℕ) (D : Drawing) → HasSkeleton k s D → Right D)
accepted_rights {s} a = accepted_as a s refl

pub accepted_sound : (s : Sheet) → Raw s → Accepting s (accepted s) → Sound s
accepted_sound s raw a =
    let n : (i : ℕ) → ¬ Lacking s.rows i = (accepted_rights a).0 in
    let g : (k : ℕ) (D : Drawing) → HasSkeleton k s D → Right D = (accepted_rights a).1 in
    let good : Good s.rows = good_of s raw n in
    record {
      good = good;
      drawings = raw.drawings;
      skeletons = λ k D h. right_skeleton D.rows (rw h.rows at good) D.skeleton (raw.drawings k D h) (g k D h);
    }
