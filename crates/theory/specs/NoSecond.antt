-- No second answer and no second content of lent memory.
use Rattle.std.specs.Prelude.{◌≡◌, refl, Bool, true, false, ◌⊎◌, ℕ, ◌≤◌, ◌<◌, length, get_or}
use Rattle.std.proofs.Common.{ap, ◌∙◌, inl, inr, ⊎_elim, arith, ext_get_or}
use Rattle.std.proofs.Math.Path.{sym as back}
use mathlib.Core.List.{List, []}
use Rattle.std.proofs.Math.Decide.{ℕ_discrete, dec_lt}
use Rattle.model.specs.Term.{Term}
use Rattle.model.specs.Subst.{Subst, apply}
use Rattle.model.specs.Table.{Row, term}
use Rattle.model.specs.Skeleton.{Node, Skeleton}
use Rattle.model.specs.Derive.{Realized}
use Rattle.model.specs.Sheet.{Sheet, Verdict, Drawing, meant, HasSkeleton}
use Rattle.model.specs.Rising.{InDictionary}
use Rattle.model.specs.Maps.{to, Kept, Upto, FirstBroken, SourceVariable, Images, TheMaps}
use Rattle.model.specs.Answers.{Answer, answered, Asked, no_such, too_short, said, Always, Tells, over, Counts, TheSheet, SaysCounts, AskSheet, HasTerms, SaysWithin, AskWithin, HasReception, HasReceptionAndTerm, SaysDerivable, AskDerivable, ReachIs, SaysReach, AskReach, Sooner, strand, position, FirstOpen, Openness, open_at, SaysRealized, yes_realized, first_open, AskRealized, HasSkeletons, Mapping, breaks, ImageRoom, SaysMap, yes_map, no_map, AskMap, end_to_end, ListRoom, SaysList, AskList}
use Rattle.theory.specs.GoodTable.{Good}
use Rattle.theory.specs.Numbers.{term_injective}
use Rattle.theory.specs.MapLaws.{images_agree}
use Rattle.theory.specs.RisingLists.{rising_one, dictionary_asym}

-- The order of refusals leaves one answer

pub record Same {A : Type 0} (a b : A) (l m : List ℕ) : Type 0 where
  pub answer : a ≡ b
  pub bytes : l ≡ m

module _ {X A : Type 0} (Subject : Sheet → X → Type 0) (Room : X → Type 0) (Says : X → A → List ℕ → Type 0) (lent : List ℕ)
    (s : Sheet)
    (one_subject : (x y : X) → Subject s x → Subject s y → x ≡ y)
    (one_said : (x : X) → Subject s x → (a b : A) (l m : List ℕ) → Says x a l → Says x b m → Same a b l m) where
  pub asked_one : {a b : Answer A} {l m : List ℕ} → Asked Subject Room Says lent (Verdict.accepted s) a l
      → Asked Subject Room Says lent (Verdict.accepted s) b m
      → Same a b l m
  asked_one (no_such h) (no_such k) = record { answer = refl; bytes = refl }
  asked_one (no_such h) (too_short {x = y} k r) = absurd (h y k)
  asked_one (no_such h) (said {x = y} k r q) = absurd (h y k)
  asked_one (too_short {x = x} h r) (no_such k) = absurd (k x h)
  asked_one (too_short h r) (too_short k q) = record { answer = refl; bytes = refl }
  asked_one (too_short {x = x} h r) (said {x = y} k q p) = absurd (r (rw (one_subject x y h k) q))
  asked_one (said {x = x} h r p) (no_such k) = absurd (k x h)
  asked_one (said {x = x} h r p) (too_short {x = y} k q) = absurd (q (rw (← one_subject x y h k) r))
  asked_one (said {x = x} {a = a} {after = l} h r p) (said {x = y} {a = b} {after = m} k q o) =
      let g = one_said x h a b l m p (rw (one_subject x y h k) o) in
      record { answer = ap answered g.answer; bytes = g.bytes }

-- What each question is about

module _ (k : ℕ) (s : Sheet) where
  pub one_drawing : (D E : Drawing) → HasSkeleton k s D → HasSkeleton k s E → D ≡ E
  one_drawing D E h g =
      let r : D.rows ≡ E.rows = cc (h.rows, g.rows) in
      let t : D.skeleton ≡ E.skeleton = cc (h.skeleton, g.skeleton) in
      λ i. record { rows = r i; skeleton = t i }

-- The counts

module _ (s : Sheet) where
  pub sheet_one : {a b : Answer Counts} {l m : List ℕ} → AskSheet (Verdict.accepted s) a l → AskSheet (Verdict.accepted s) b m
      → Same a b l m
  unfolding AskSheet
  sheet_one h k =
      asked_one TheSheet Always SaysCounts [] s (λ x y p q. back p.same ∙ q.same)
      (λ x _ a b l m p q.
      let t : a.terms ≡ b.terms = p.terms ∙ back q.terms in
      let u : a.skeletons ≡ b.skeletons = p.skeletons ∙ back q.skeletons in
      record { answer = λ i. record { terms = t i; skeletons = u i }; bytes = p.kept ∙ back q.kept }) h k

-- Yes or no

tells_one : {P : Type 0} (a b : Bool) → Tells a P → Tells b P → a ≡ b
tells_one true true h k = refl
tells_one true false h k = back (k.1 (h.0 refl))
tells_one false true h k = h.1 (k.0 refl)
tells_one false false h k = refl

module _ (t t' : ℕ) (S : List ℕ) (s : Sheet) where
  pub within_one : {a b : Answer Bool} {l m : List ℕ} → AskWithin t t' S (Verdict.accepted s) a l
      → AskWithin t t' S (Verdict.accepted s) b m
      → Same a b l m
  unfolding AskWithin
  within_one h k =
      asked_one (HasTerms t t' S) Always (SaysWithin t t' S) S s (λ x y p q. back p.rows_of ∙ q.rows_of)
      (λ x _ a b l m p q. record { answer = tells_one a b p.tells q.tells; bytes = p.kept ∙ back q.kept }) h k

module _ (k : ℕ) (n : Node) (t : ℕ) (s : Sheet) where
  pub derivable_one : {a b : Answer Bool} {l m : List ℕ} → AskDerivable k n t (Verdict.accepted s) a l
      → AskDerivable k n t (Verdict.accepted s) b m
      → Same a b l m
  unfolding AskDerivable
  derivable_one h g =
      asked_one (HasReceptionAndTerm k n t) Always (SaysDerivable k n t) [] s
      (λ x y p q. one_drawing k s x y p.reception.drawing q.reception.drawing)
      (λ x _ a b l m p q. record { answer = tells_one a b p.tells q.tells; bytes = p.kept ∙ back q.kept }) h g

-- Reach

module _ (k : ℕ) (n : Node) where
  reach_one : (D : Drawing) (a b : ℕ) → ReachIs k n D a → ReachIs k n D b → a ≡ b
  reach_one D a b p q =
      let e : p.terms ≡ q.terms =
      rising_one (λ i j. i < j) (λ x y h g. omega arith) p.terms q.terms p.rising q.rising
      (λ i m. (q.members i).1 ((p.members i).0 m)) (λ i m. (p.members i).1 ((q.members i).0 m)) in
      back p.size ∙ (ap length e ∙ q.size)

  module _ (s : Sheet) where
    pub reach_answer_one : {a b : Answer ℕ} {l m : List ℕ} → AskReach k n (Verdict.accepted s) a l
        → AskReach k n (Verdict.accepted s) b m → Same a b l m
    unfolding AskReach
    reach_answer_one h g =
        asked_one (HasReception k n) Always (SaysReach k n) [] s (λ x y p q. one_drawing k s x y p.drawing q.drawing)
        (λ x _ a b l m p q. record { answer = reach_one x a b p.reach q.reach; bytes = p.kept ∙ back q.kept }) h g

-- Realized

sooner_or_not : (m n : Node) → Sooner m n ⊎ (Sooner n m ⊎ (m ≡ n))
sooner_or_not m n = go (dec_lt m.strand n.strand) (dec_lt n.strand m.strand) (dec_lt m.position n.position)
    (dec_lt n.position m.position)
  where
    go : Dec (m.strand < n.strand) → Dec (n.strand < m.strand) → Dec (m.position < n.position)
        → Dec (n.position < m.position) → Sooner m n ⊎ (Sooner n m ⊎ (m ≡ n))
    go (yes a) _ _ _ = inl (strand a)
    go (no a) (yes b) _ _ = inr (inl (strand b))
    go (no a) (no b) (yes c) _ = inl (position (omega arith) c)
    go (no a) (no b) (no c) (yes d) = inr (inl (position (omega arith) d))
    go (no a) (no b) (no c) (no d) =
        let e : m.strand ≡ n.strand = omega arith in
        let f : m.position ≡ n.position = omega arith in
        inr (inr (λ i. record { strand = e i; position = f i }))

module _ (K : Skeleton Term) where
  first_open_one : (m n : Node) → FirstOpen K m → FirstOpen K n → m ≡ n
  first_open_one m n p q =
      ⊎_elim (λ h. absurd (p.unrealized (q.first m p.message h p.at)))
      (⊎_elim (λ h. absurd (q.unrealized (p.first n q.message h q.at))) (λ e. e)) (sooner_or_not m n)

  open_unrealized : (n : Node) → FirstOpen K n → ¬ Realized K
  unfolding Realized
  open_unrealized n p r = p.unrealized (r n p.message p.at)

module _ (D : Drawing) where
  openness_one : (a b : Openness) (l m : List ℕ) → SaysRealized D a l → SaysRealized D b m → Same a b l m
  openness_one _ _ _ _ (yes_realized p) (yes_realized q) = record { answer = refl; bytes = refl }
  openness_one _ _ _ _ (yes_realized p) (first_open {n} q) = absurd (open_unrealized (meant D) n q p)
  openness_one _ _ _ _ (first_open {n} p) (yes_realized q) = absurd (open_unrealized (meant D) n p q)
  openness_one _ _ _ _ (first_open {n = m} p) (first_open {n} q) =
      record { answer = ap open_at (first_open_one (meant D) m n p q); bytes = refl }

module _ (k : ℕ) (s : Sheet) where
  pub realized_one : {a b : Answer Openness} {l m : List ℕ} → AskRealized k (Verdict.accepted s) a l
      → AskRealized k (Verdict.accepted s) b m → Same a b l m
  unfolding AskRealized
  realized_one h g = asked_one (HasSkeleton k) Always SaysRealized [] s (one_drawing k s) (λ x _. openness_one x) h g

-- Maps

module _ (A B : Skeleton Term) (bytes : List ℕ) where
  pub kept_less : (j k : ℕ) → j ≤ k → {σ : Subst} → Kept A B bytes k σ → Kept A B bytes j σ
  kept_less j k l h =
      record {
        strands = λ x. h.strands (omega arith);
        directions = λ x. h.directions (omega arith);
        messages = λ x. h.messages (omega arith);
        order = λ x. h.order (omega arith);
        non = λ x. h.non (omega arith);
        uniq = λ x. h.uniq (omega arith);
      }

  pub upto_less : (j k : ℕ) → j ≤ k → Upto A B bytes k → Upto A B bytes j
  upto_less j k l h = record { σ = h.σ; kept = kept_less j k l h.kept }

  broken_one : (j k : ℕ) → FirstBroken A B bytes j → FirstBroken A B bytes k → j ≡ k
  broken_one j k p q = go (dec_lt j k) (dec_lt k j)
    where
      go : Dec (j < k) → Dec (k < j) → j ≡ k
      go (yes h) _ = absurd (p.breaks (q.hold j h))
      go (no h) (yes g) = absurd (q.breaks (p.hold k g))
      go (no h) (no g) = omega arith

module _ (rows : List Row) (good : Good rows) (A B : Skeleton Term) (bytes : List ℕ) (σ τ : Subst) (p : Kept A B bytes 6 σ)
    (q : Kept A B bytes 6 τ) where
  images_one : (l m : List ℕ) → Images rows A σ l → Images rows A τ m → l ≡ m
  images_one l m h k =
      ext_get_or 255 l m (h.full ∙ back k.full) λ i b. go i (rw h.full at b) (ℕ_discrete (get_or l i 255) (get_or m i 255))
    where
      agreed : (t : Term) → SourceVariable A t → apply σ t ≡ apply τ t
      agreed t v =
          images_agree A B (to A B bytes) σ τ (p.directions (omega arith)) (p.messages (omega arith))
          (q.messages (omega arith)) v.occurs.node v.occurs.event v.occurs.at v.occurs.occurs

      go : (i : ℕ) → i < length rows → Dec (get_or l i 255 ≡ get_or m i 255) → get_or l i 255 ≡ get_or m i 255
      go i b (yes e) = e
      go i b (no n) =
          let x : ¬ SourceVariable A (term rows i) = λ v.
          n (term_injective rows good _ _ (h.inside i b v) (k.inside i b v)
          (h.image i b v ∙ (agreed _ v ∙ back (k.image i b v)))) in
          h.elsewhere i b x ∙ back (k.elsewhere i b x)

pub maps_one : {A B : Skeleton Term} {l m : List (List ℕ)} → TheMaps A B l → TheMaps A B m → l ≡ m
maps_one {l} {m} p q =
    rising_one InDictionary dictionary_asym l m p.rising q.rising
    (λ z h. (q.members z).1 ((p.members z).0 h)) (λ z h. (p.members z).1 ((q.members z).0 h))

module _ (source target : ℕ) (s : Sheet) where
  one_pair : (x y : Drawing × Drawing) → HasSkeletons source target s x → HasSkeletons source target s y → x ≡ y
  one_pair x y p q =
      let e = one_drawing source s x.0 y.0 p.from q.from in
      let f = one_drawing target s x.1 y.1 p.to q.to in
      λ i. (e i, f i)

  module _ (good : Good s.rows) (bytes lent : List ℕ) where
    map_said_one : (x : Drawing × Drawing) → HasSkeletons source target s x → (a b : Mapping) (l m : List ℕ)
        → SaysMap source target bytes lent x a l
        → SaysMap source target bytes lent x b m
        → Same a b l m
    map_said_one x g _ _ _ _ (yes_map {σ} {images = l} p h) (yes_map {σ = τ} {images = m} q k) =
        let r : Good x.0.rows = rw g.from.rows at good in
        record {
          answer = refl;
          bytes = ap (λ w. over w lent)
              (images_one x.0.rows r (meant x.0) (meant x.1) bytes σ τ p q l m h k);
        }
    map_said_one x g _ _ _ _ (yes_map {σ} p h) (no_map {rule} q) =
        absurd (q.breaks (upto_less (meant x.0) (meant x.1) bytes rule 6 q.rule (record { σ = σ; kept = p })))
    map_said_one x g _ _ _ _ (no_map {rule} p) (yes_map {σ} q k) =
        absurd (p.breaks (upto_less (meant x.0) (meant x.1) bytes rule 6 p.rule (record { σ = σ; kept = q })))
    map_said_one x g _ _ _ _ (no_map {rule = j} p) (no_map {rule} q) =
        record { answer = ap breaks (broken_one (meant x.0) (meant x.1) bytes j rule p q); bytes = refl }

    pub map_one : {a b : Answer Mapping} {l m : List ℕ} → AskMap source target bytes lent (Verdict.accepted s) a l
        → AskMap source target bytes lent (Verdict.accepted s) b m
        → Same a b l m
    unfolding AskMap
    map_one h g =
        asked_one (HasSkeletons source target) (ImageRoom source target bytes lent) (SaysMap source target bytes lent) lent s
        one_pair map_said_one h g

  module _ (lent : List ℕ) where
    list_said_one : (x : Drawing × Drawing) → HasSkeletons source target s x → (a b : ℕ) (l m : List ℕ)
        → SaysList source target lent x a l
        → SaysList source target lent x b m
        → Same a b l m
    list_said_one x _ a b l m p q =
        let e : p.maps ≡ q.maps = maps_one p.all q.all in
        record {
          answer = back p.counted ∙ (ap length e ∙ q.counted);
          bytes = back p.written
              ∙ (ap (λ w. over (end_to_end w) lent) e ∙ q.written);
        }

    pub list_one : {a b : Answer ℕ} {l m : List ℕ} → AskList source target lent (Verdict.accepted s) a l
        → AskList source target lent (Verdict.accepted s) b m
        → Same a b l m
    unfolding AskList
    list_one h g = asked_one (HasSkeletons source target) (ListRoom source target lent) (SaysList source target lent) lent s
        one_pair list_said_one h g
