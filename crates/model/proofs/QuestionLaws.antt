-- Laws of the questions: which refusal comes first and what it is, what each question is about, what its answer says, and how
-- much room is asked for.
use Rattle.std.proofs.Math.Path.{◌≡◌, refl}
use Rattle.std.specs.Prelude.{Bool, true, ◌↔◌, ◌⊎◌, ℕ, ◌*◌, ◌≤◌, ◌<◌, length}
use Rattle.std.proofs.Common.{inl, inr, arith}
use mathlib.Core.List.{List, [], ◌∷◌, Memᴰ}
use Rattle.std.proofs.Math.Decide.{dec_lt}
use Rattle.model.specs.Term.{Term}
use Rattle.model.specs.Carry.{OnlyWithin}
use Rattle.model.specs.Subst.{Subst}
use Rattle.model.specs.Table.{Row, term}
use Rattle.model.specs.Skeleton.{send, recv, Node, Skeleton, At}
use Rattle.model.specs.Derive.{DerivableBefore, Realized}
use Rattle.model.specs.Sheet.{Sheet, Refusal, Verdict, Drawing, meant, HasSkeleton}
use Rattle.model.specs.Rising.{Rising}
use Rattle.model.specs.Maps.{Kept, FirstBroken, Images, TheMaps}
use Rattle.model.specs.Answers.{Answer, refused, answered, Asked, bad_sheet, no_such, too_short, said, over, Counts, AskSheet, HasTerms, Member, AskWithin, HasReception, AskDerivable, ReachIs, AskReach, FirstOpen, Sooner, Openness, realized, open_at, SaysRealized, yes_realized, first_open, AskRealized, Mapping, is_map, breaks, SaysMap, yes_map, no_map, end_to_end, HasSkeletons, ImageRoom, AskMap, ListRoom, AskList}
use Rattle.model.proofs.EventLaws.{one_event}
use Rattle.model.proofs.Samples.{given_as}

-- THE ORDER OF REFUSALS: "A question gives the sheet's refusal first, then 15, then 16." They are written out here

module _ {X A : Type 0} (Subject : Sheet → X → Type 0) (Room : X → Type 0) (Says : X → A → List ℕ → Type 0) (lent : List ℕ) where
  pub sheet_refusal_first : (r : Refusal) {a : Answer A} {after : List ℕ}
      → Asked Subject Room Says lent (Verdict.refused r) a after
      → (a ≡ refused r) × (after ≡ lent)
  sheet_refusal_first r bad_sheet = (refl, refl)

  -- "15: no such skeleton, term, or reception asked for", place 0
  pub then_fifteen : (s : Sheet) → ((x : X) → ¬ Subject s x) → {a : Answer A} {after : List ℕ}
      → Asked Subject Room Says lent (Verdict.accepted s) a after
      → (a ≡ refused (given_as 15 0 0)) × (after ≡ lent)
  then_fifteen s n (no_such h) = (refl, refl)
  then_fifteen s n (too_short {x} h k) = absurd (n x h)
  then_fifteen s n (said {x} h k y) = absurd (n x h)

  -- "16: lent space too short", place 0
  pub then_sixteen : (s : Sheet) (x : X) → Subject s x → ((y : X) → Subject s y → ¬ Room y) → {a : Answer A} {after : List ℕ}
      → Asked Subject Room Says lent (Verdict.accepted s) a after
      → (a ≡ refused (given_as 16 0 0)) × (after ≡ lent)
  then_sixteen s x g n (no_such h) = absurd (h x g)
  then_sixteen s x g n (too_short h k) = (refl, refl)
  then_sixteen s x g n (said {x = y} h k t) = absurd (n y h k)

  -- and where neither is due there is an answer, about what was asked for
  pub else_answered : (s : Sheet) (x : X) → Subject s x → ((y : X) → Subject s y → Room y) → {a : Answer A} {after : List ℕ}
      → Asked Subject Room Says lent (Verdict.accepted s) a after
      → (y : X) × (b : A) × Subject s y × (a ≡ answered b) × Says y b after
  else_answered s x g n (no_such h) = absurd (h x g)
  else_answered s x g n (too_short {x = y} h k) = absurd (k (n y h))
  else_answered s x g n (said {x = y} {a = b} h k t) = (y, b, h, refl, t)

  -- each is given
  pub fifteen_given : (s : Sheet) → ((x : X) → ¬ Subject s x)
      → Asked Subject Room Says lent (Verdict.accepted s) (refused (given_as 15 0 0)) lent
  fifteen_given s n = no_such n

  pub sixteen_given : (s : Sheet) (x : X) → Subject s x → ¬ Room x
      → Asked Subject Room Says lent (Verdict.accepted s) (refused (given_as 16 0 0)) lent
  sixteen_given s x h n = too_short h n

  -- "A refusal .. writes nothing"
  refusal_leaves : {v : Verdict} {a : Answer A} {after : List ℕ} (r : Refusal) → a ≡ refused r
      → Asked Subject Room Says lent v a after
      → after ≡ lent
  refusal_leaves r e bad_sheet = refl
  refusal_leaves r e (no_such h) = refl
  refusal_leaves r e (too_short h k) = refl
  refusal_leaves r e (said h k t) = let z : ◌≡◌ {A = ℕ} 0 1 = cc in absurd (omega arith)

  -- an answer is about the subject, and there was room
  answer_about : (s : Sheet) {a : Answer A} (b : A) {after : List ℕ} → a ≡ answered b
      → Asked Subject Room Says lent (Verdict.accepted s) a after
      → (x : X) × Subject s x × Room x × Says x b after
  answer_about s b e (no_such h) = let z : ◌≡◌ {A = ℕ} 0 1 = cc in absurd (omega arith)
  answer_about s b e (too_short h k) = let z : ◌≡◌ {A = ℕ} 0 1 = cc in absurd (omega arith)
  answer_about s b e (said {x} {a = c} h k t) = let z : c ≡ b = cc in (x, h, k, rw z at t)

-- of the three questions that are lent something
pub refusal_writes_nothing : (v : Verdict) (r : Refusal) (lent after : List ℕ)
    → ((t t' : ℕ) → AskWithin t t' lent v (refused r) after → after ≡ lent)
    × ((k l : ℕ) (bytes : List ℕ) → AskMap k l bytes lent v (refused r) after → after ≡ lent)
    × ((k l : ℕ) → AskList k l lent v (refused r) after → after ≡ lent)
unfolding AskWithin AskMap AskList
refusal_writes_nothing v r lent after = (
  λ t t'. refusal_leaves _ _ _ lent r refl,
  λ k l bytes. refusal_leaves _ _ _ lent r refl,
  λ k l. refusal_leaves _ _ _ lent r refl,
)

-- "lent bytes beyond it stay"
pub bytes_beyond_stay : (over (1 ∷ 2 ∷ []) (7 ∷ 8 ∷ 9 ∷ 6 ∷ []) ≡ 1 ∷ 2 ∷ 9 ∷ 6 ∷ []) × (over [] (7 ∷ []) ≡ 7 ∷ [])
unfolding over
bytes_beyond_stay = (refl, refl)

-- THE QUESTIONS, about an accepted sheet

module _ (s : Sheet) where
  -- "Sheet: good, with the counts of terms and skeletons."
  pub sheet_says_counts : (c : Counts) (after : List ℕ) → AskSheet (Verdict.accepted s) (answered c) after
      → (c.terms ≡ length s.rows) × (c.skeletons ≡ length s.skeletons) × (after ≡ [])
  unfolding AskSheet
  sheet_says_counts c after q =
      let (x, h, k, y) = answer_about _ _ _ _ s c refl q in
      rw h.same (y.terms, y.skeletons, y.kept)

  -- "Carried only within: t, t' and lent term numbers for S (repeats harmless; 15 if any of them all is no term); yes or no."
  module _ (t t' : ℕ) (S : List ℕ) where
    pub within_says : (b : Bool) (after : List ℕ) → AskWithin t t' S (Verdict.accepted s) (answered b) after
        → ((b ≡ true) ↔ OnlyWithin (Member t t' S s.rows) (term s.rows t) (term s.rows t')) × (after ≡ S)
    unfolding AskWithin
    within_says b after q =
        let (x, h, k, y) = answer_about _ _ _ _ s b refl q in
        rw h.rows_of (y.tells, y.kept)

    -- the set is that of the lent numbers
    pub member_iff : (rows : List Row) (u : Term)
        → Member t t' S rows u ↔ ((i : ℕ) × Memᴰ i S × (term rows i ≡ u))
    member_iff rows u = (λ m. (m.number, m.lent, m.means), λ (i, l, e). record { number = i; lent = l; means = e })

    pub has_terms_iff : (rows : List Row) → HasTerms t t' S s rows
        ↔ ((s.rows ≡ rows) × (t < length rows) × (t' < length rows) × ((i : ℕ) → Memᴰ i S → i < length rows))
    has_terms_iff rows = (
      λ h. (h.rows_of, h.first, h.second, h.all),
      λ (e, a, b, c). record { rows_of = e; first = a; second = b; all = c },
    )

  module _ (k : ℕ) (n : Node) where
    -- a reception: nothing that is sent is one
    pub reception_iff : (D : Drawing) → HasReception k n s D ↔ ((m : ℕ) × HasSkeleton k s D × At D.skeleton n (recv m))
    reception_iff D =
        (λ h. (h.message, h.drawing, h.at), λ (m, d, a). record { drawing = d; message = m; at = a })

    pub send_is_no_reception : (D : Drawing) (m : ℕ) → At D.skeleton n (send m) → ¬ HasReception k n s D
    send_is_no_reception D m a h =
        let e = one_event D.skeleton n _ _ a h.at in
        let z : ◌≡◌ {A = ℕ} 0 1 = cc in
        omega arith

    -- "Derivable before: skeleton, reception node, term; yes or no."
    pub derivable_says : (t : ℕ) (b : Bool) (after : List ℕ) → AskDerivable k n t (Verdict.accepted s) (answered b) after
        → (D : Drawing) × HasReception k n s D × (t < length D.rows)
        × ((b ≡ true) ↔ DerivableBefore (meant D) n (term D.rows t)) × (after ≡ [])
    unfolding AskDerivable
    derivable_says t b after q =
        let (D, h, _, y) = answer_about _ _ _ _ s b refl q in
        (D, h.reception, h.a_term, y.tells, y.kept)

    -- "Reach: how many of the sheet's terms are derivable before a reception."
    pub reach_says_count : (count : ℕ) (after : List ℕ) → AskReach k n (Verdict.accepted s) (answered count) after
        → (D : Drawing) × HasReception k n s D × ReachIs k n D count × (after ≡ [])
    unfolding AskReach
    reach_says_count count after q =
        let (D, h, _, y) = answer_about _ _ _ _ s count refl q in
        (D, h, y.reach, y.kept)

    -- the derivable ones, each once
    pub reach_iff : (D : Drawing) (count : ℕ) → ReachIs k n D count
        ↔ ((l : List ℕ) × Rising (λ i j. i < j) l
        × ((i : ℕ) → Memᴰ i l ↔ ((i < length D.rows) × DerivableBefore (meant D) n (term D.rows i)))
        × (length l ≡ count))
    reach_iff D count = (
      λ r. (r.terms, r.rising, r.members, r.size),
      λ (l, u, m, e). record { terms = l; rising = u; members = m; size = e },
    )

  -- "Realized: yes, or the first unrealized reception by strand, then position."
  module _ (k : ℕ) where
    pub realized_says_yes : (after : List ℕ) → AskRealized k (Verdict.accepted s) (answered realized) after
        → (D : Drawing) × HasSkeleton k s D × Realized (meant D)
    unfolding AskRealized
    realized_says_yes after q = let (D, h, _, y) = answer_about _ _ _ _ s realized refl q in (D, h, go refl y)
      where
        go : {D : Drawing} {o : Openness} {l : List ℕ} → o ≡ realized → SaysRealized D o l → Realized (meant D)
        go e (yes_realized r) = r
        go e (first_open f) = let z : ◌≡◌ {A = ℕ} 0 1 = cc in absurd (omega arith)

    pub realized_says_open : (n : Node) (after : List ℕ) → AskRealized k (Verdict.accepted s) (answered (open_at n)) after
        → (D : Drawing) × HasSkeleton k s D × FirstOpen (meant D) n
    unfolding AskRealized
    realized_says_open n after q = let (D, h, _, y) = answer_about _ _ _ _ s (open_at n) refl q in (D, h, go refl y)
      where
        go : {D : Drawing} {o : Openness} {l : List ℕ} → o ≡ open_at n → SaysRealized D o l → FirstOpen (meant D) n
        go e (yes_realized r) = let z : ◌≡◌ {A = ℕ} 0 1 = cc in absurd (omega arith)
        go e (first_open {n = m} f) = let z : m ≡ n = cc in rw z at f

-- the reception named is not realized
pub open_is_unrealized : (K : Skeleton Term) (n : Node) → FirstOpen K n → (t : Term) × At K n (recv t) × (¬ DerivableBefore K n t)
open_is_unrealized K n f = (f.message, f.at, f.unrealized)

-- and any other such reception is on a later strand, or later on its strand
pub first_by_strand : (K : Skeleton Term) (n : Node) → FirstOpen K n
    → (m : Node) (t : Term) → At K m (recv t) → ¬ DerivableBefore K m t
    → (n.strand < m.strand) ⊎ ((n.strand ≡ m.strand) × (n.position ≤ m.position))
first_by_strand K n f m t a h =
    go (dec_lt n.strand m.strand) (dec_lt m.strand n.strand) (dec_lt m.position n.position)
  where
    not_sooner : ¬ Sooner m n
    not_sooner s = h (f.first m t s a)

    go : Dec (n.strand < m.strand) → Dec (m.strand < n.strand) → Dec (m.position < n.position)
        → (n.strand < m.strand) ⊎ ((n.strand ≡ m.strand) × (n.position ≤ m.position))
    go (yes l) x y = inl l
    go (no l) (yes x) y = absurd (not_sooner (Sooner.strand x))
    go (no l) (no x) (yes y) = absurd (not_sooner (Sooner.position (omega arith) y))
    go (no l) (no x) (no y) = inr (omega arith, omega arith)

-- ROOM

module _ (source target : ℕ) (x : Drawing × Drawing) where
  -- "Too short for all terms: 16": a table of as many bytes as there are terms is long enough
  pub image_room_iff : (bytes lent : List ℕ) → ImageRoom source target bytes lent x ↔ (length x.0.rows ≤ length lent)
  unfolding ImageRoom
  image_room_iff bytes lent = (λ h. h, λ h. h)

  -- "It takes 16 exactly when count times strands exceeds the space": the source's strands
  pub list_room_iff : (lent : List ℕ) → ListRoom source target lent x
      ↔ ((maps : List (List ℕ)) × TheMaps (meant x.0) (meant x.1) maps
      × (length maps * length x.0.skeleton.strands ≤ length lent))
  list_room_iff lent =
      (λ r. (r.maps, r.all, r.fits), λ (m, a, f). record { maps = m; all = a; fits = f })

-- TWO SKELETONS

module _ (s : Sheet) (source target : ℕ) where
  pub skeletons_iff : (x : Drawing × Drawing) → HasSkeletons source target s x
      ↔ (HasSkeleton source s x.0 × HasSkeleton target s x.1)
  skeletons_iff x = (λ h. (h.from, h.to), λ (a, b). record { from = a; to = b })

  -- "Yes writes one byte per term .. bytes beyond stay"
  pub map_says_yes : (bytes lent after : List ℕ) → AskMap source target bytes lent (Verdict.accepted s) (answered is_map) after
      → (x : Drawing × Drawing) × HasSkeletons source target s x
      × ((σ : Subst) × (images : List ℕ) × Kept (meant x.0) (meant x.1) bytes 6 σ
      × Images x.0.rows (meant x.0) σ images × (after ≡ over images lent))
  unfolding AskMap
  map_says_yes bytes lent after q = let (x, h, _, y) = answer_about _ _ _ _ s is_map refl q in (x, h, go x refl y)
    where
      go : (x : Drawing × Drawing) {m : Mapping} {after : List ℕ} → m ≡ is_map → SaysMap source target bytes lent x m after
          → (σ : Subst) × (images : List ℕ) × Kept (meant x.0) (meant x.1) bytes 6 σ
          × Images x.0.rows (meant x.0) σ images × (after ≡ over images lent)
      go x e (yes_map {σ} {images} k i) = (σ, images, k, i, refl)
      go x e (no_map f) = let z : ◌≡◌ {A = ℕ} 0 1 = cc in absurd (omega arith)

  -- "No gives the first broken rule below and writes nothing."
  pub map_says_no : (bytes lent after : List ℕ) (rule : ℕ)
      → AskMap source target bytes lent (Verdict.accepted s) (answered (breaks rule)) after
      → (x : Drawing × Drawing) × HasSkeletons source target s x
      × FirstBroken (meant x.0) (meant x.1) bytes rule × (after ≡ lent)
  unfolding AskMap
  map_says_no bytes lent after rule q =
      let (x, h, _, y) = answer_about _ _ _ _ s (breaks rule) refl q in
      let g = go x refl y in
      (x, h, g.0, g.1)
    where
      go : (x : Drawing × Drawing) {m : Mapping} {after : List ℕ} → m ≡ breaks rule → SaysMap source target bytes lent x m after
          → FirstBroken (meant x.0) (meant x.1) bytes rule × (after ≡ lent)
      go x e (yes_map k i) = let z : ◌≡◌ {A = ℕ} 0 1 = cc in absurd (omega arith)
      go x e (no_map {rule = r} f) = let z : r ≡ rule = cc in (rw z at f, refl)

  -- "the count, and the maps end to end, one byte per source strand. Bytes beyond stay."
  pub list_says_maps : (lent after : List ℕ) (count : ℕ) → AskList source target lent (Verdict.accepted s) (answered count) after
      → (x : Drawing × Drawing) × HasSkeletons source target s x
      × ((maps : List (List ℕ)) × TheMaps (meant x.0) (meant x.1) maps × (length maps ≡ count)
      × (over (end_to_end maps) lent ≡ after))
  unfolding AskList
  list_says_maps lent after count q =
      let (x, h, _, y) = answer_about _ _ _ _ s count refl q in
      (x, h, (y.maps, y.all, y.counted, y.written))

pub maps_end_to_end : end_to_end ((0 ∷ 1 ∷ []) ∷ (2 ∷ 3 ∷ []) ∷ []) ≡ 0 ∷ 1 ∷ 2 ∷ 3 ∷ []
unfolding end_to_end
maps_end_to_end = refl
