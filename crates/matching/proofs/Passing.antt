-- What the pass leaves: each term that has an image goes to it, and so do its arguments. And when the pass has an outcome.
use mathlib.Core.Path.{◌≡◌, refl, ◌∙◌, sym as back}
use mathlib.Core.Bool.{Bool, true, false, cond}
use mathlib.Core.List.{List}
use mathlib.Core.Option.{none, some}
use Prim.Native.Nat.{ℕ, zero, suc, ◌≤◌, ◌<◌}
use native.Mathlib.Omega.{arith}
use native.Mathlib.Decide.{ℕ_discrete}
use lib.Dec.{T, ltb}
use lib.ListN.{length}
use borrow.Author.Tests.{ltb-true, ltb-false}
use Rattle.model.specs.Table.{Row, row}
use Rattle.theory.specs.Each.{Each}
use Rattle.theory.specs.Places.{not_there}
use Rattle.theory.specs.GoodTable.{Good}
use Rattle.theory.specs.Matching.{Wish}
use Rattle.tables.specs.Tables.{byte}
use Rattle.matching.specs.Pass.{demands, heads_fit, part_wishes, sent, visit, pass}
use Rattle.matching.proofs.Demanded.{between, onward, Sound, Steps, steps, Every, every_demands, all_met}
use Rattle.matching.proofs.Shapes.{parts_inside}

T_true : (b : Bool) → T b → b ≡ true
T_true true h = refl
T_true false h = elim h [ ]

module _ (rows : List Row) (good : Good rows) (few : length rows ≤ 200) where
  -- what a visit did
  data Visited (p : ℕ) (l m : List ℕ) : Type 0 where
    skipped : length rows ≤ byte l p → l ≡ m → Visited p l m
    went : byte l p < length rows → T (heads_fit rows p (byte l p)) → demands (part_wishes rows p (byte l p)) l ≡ some m
        → Visited p l m

  visited : (p : ℕ) (l : List ℕ) {m : List ℕ} → visit rows p l ≡ some m → Visited p l m
  unfolding visit sent
  visited p l {m} = go (ltb (byte l p) (length rows)) refl (heads_fit rows p (byte l p)) refl
    where
      go : (a : Bool) → ltb (byte l p) (length rows) ≡ a → (b : Bool) → heads_fit rows p (byte l p) ≡ b
          → cond a (cond b (demands (part_wishes rows p (byte l p)) l) none) (some l) ≡ some m → Visited p l m
      go false e b f q = skipped (ltb-false (byte l p) (length rows) e) (cc)
      go true e true f q = went (ltb-true (byte l p) (length rows) e) (rw f tt) q
      go true e false f q = absurd (not_there q)

  module _ (p u : ℕ) (h : p < length rows) (k : u < length rows) (t : T (heads_fit rows p u)) where
    below : Each (λ w. (w.0 < p) × (w.1 < length rows)) (part_wishes rows p u)
    below = parts_inside rows good p u h k (row rows p) (good.earlier p h) t

    places : Each (λ w. w.0 < 200) (part_wishes rows p u)
    places w m = let b = below w m in omega arith

    sound : Each Sound (part_wishes rows p u)
    sound w m = let b = below w m in record { place = omega arith; real = λ e. omega arith }

  -- the term q, if it has an image, goes to it
  pub record Settled (l : List ℕ) (q : ℕ) : Type 0 where
    pub fit : byte l q < length rows → T (heads_fit rows q (byte l q))
    pub args : byte l q < length rows → Each (λ w. byte l w.0 ≡ w.1) (part_wishes rows q (byte l q))

  -- the terms from p on are settled
  pub record State (p : ℕ) (l : List ℕ) : Type 0 where
    pub long : length l ≡ 200
    pub inside : Every (λ w. w.1 < length rows) l
    pub settled : (q : ℕ) → p ≤ q → q < length rows → Settled l q

  abbrev Keeps : List ℕ → List ℕ → Type 0
  Keeps l m = (q : ℕ) → ¬ (byte l q ≡ 255) → byte m q ≡ byte l q

  no_image : (l : List ℕ) (q : ℕ) → length rows ≤ byte l q → Settled l q
  no_image l q n = record { fit = λ k. absurd (omega arith); args = λ k. absurd (omega arith) }

  now_settled : (q u : ℕ) (m : List ℕ) → byte m q ≡ u → T (heads_fit rows q u)
      → Each (λ w. byte m w.0 ≡ w.1) (part_wishes rows q u) → Settled m q
  now_settled q u m e t f = record { fit = λ k. rw e t; args = λ k. rw e f }

  -- demands on terms below q leave it settled
  still_settled : (q : ℕ) → q < length rows → {l m : List ℕ} → byte m q ≡ byte l q → Keeps l m → Settled l q → Settled m q
  still_settled q h {l} {m} e keeps s =
      record {
        fit = λ k. rw e (s.fit (rw (← e) k));
        args = λ k.
            let j : byte l q < length rows = rw (← e) k in
            rw e (λ w i.
            let x : byte l w.0 ≡ w.1 = s.args j w i in
            let b = below q (byte l q) h j (s.fit j) w i in
            keeps w.0 (λ z. omega arith) ∙ x);
      }

  module _ (p : ℕ) (h : p < length rows) {l : List ℕ} (state : State (suc p) l) where
    visit_state : {m : List ℕ} → Visited p l m → State p m × Keeps l m
    visit_state {m} (skipped n e) = rw (← e) (
      record {
        long = state.long;
        inside = state.inside;
        settled = λ q a b. go q a b (ℕ_discrete q p);
      },
      λ q n. refl,
    )
      where
        go : (q : ℕ) → p ≤ q → q < length rows → Dec (q ≡ p) → Settled l q
        go q a b (yes z) = no_image l q (rw z n)
        go q a b (no z) = state.settled q (omega arith) b
    visit_state {m} (went k t e) = (
      record {
        long = done.long;
        inside = every_demands _ ws l state.long (places p u h k t) e (λ w i. (below p u h k t w i).1) state.inside;
        settled = λ q a b. go q a b (ℕ_discrete q p);
      },
      done.kept,
    )
      where
        u : ℕ
        u = byte l p

        ws : List Wish
        ws = part_wishes rows p u

        done : Steps ws l m
        done = steps ws l state.long (sound p u h k t) e

        same : (q : ℕ) → p ≤ q → byte m q ≡ byte l q
        same q a = done.above p (λ w i. (below p u h k t w i).0) q a

        go : (q : ℕ) → p ≤ q → q < length rows → Dec (q ≡ p) → Settled m q
        go q a b (yes z) = rw z (now_settled p u m (same p (omega arith)) t done.here)
        go q a b (no z) = still_settled q b (same q a) done.kept (state.settled q (omega arith) b)

  pub pass_state : (p : ℕ) → p ≤ length rows → (l : List ℕ) {m : List ℕ} → State p l
      → pass rows p l ≡ some m → State 0 m × Keeps l m
  unfolding pass
  pass_state zero h l {m} state e = let z : l ≡ m = cc in rw (← z) (state, λ q n. refl)
  pass_state (suc p) h l state e =
      let (x, v, r) = between (visit rows p l) (pass rows p) e in
      let (next, keeps) = visit_state p h state (visited p l v) in
      let (last, more) = pass_state p (omega arith) x next r in
      (last, λ q n. more q (λ z. n (back (keeps q n) ∙ z)) ∙ keeps q n)

  -- What holds of all wishes, and of the arguments where it holds of a term, holds of all images

  module _ (R : Wish → Type 0)
      (down : (p u : ℕ) → p < length rows → u < length rows → T (heads_fit rows p u) → R (p, u)
      → Each R (part_wishes rows p u)) where
    -- the images so far
    pub record Held (l : List ℕ) : Type 0 where
      pub long : length l ≡ 200
      pub every : Every R l

    module _ (p : ℕ) (h : p < length rows) {l : List ℕ} (held : Held l) where
      known : byte l p < length rows → R (p, byte l p)
      known k = held.every p (omega arith) (λ z. omega arith)

      visit_held : {m : List ℕ} → Visited p l m → Held m
      visit_held (skipped n e) = rw (← e) held
      visit_held (went k t e) =
          let u = byte l p in
          let ws = part_wishes rows p u in
          record {
            long = (steps ws l held.long (sound p u h k t) e).long;
            every = every_demands R ws l held.long (places p u h k t) e (down p u h k t (known k)) held.every;
          }

    pub pass_held : (p : ℕ) → p ≤ length rows → (l : List ℕ) {m : List ℕ} → Held l → pass rows p l ≡ some m → Held m
    unfolding pass
    pass_held zero h l {m} held e = let z : l ≡ m = cc in rw (← z) held
    pass_held (suc p) h l held e =
        let (x, v, r) = between (visit rows p l) (pass rows p) e in
        pass_held p (omega arith) x (visit_held p h held (visited p l v)) r

    -- where it is one image each, to which the term can go, there is an outcome
    module _ (one : (p u v : ℕ) → R (p, u) → R (p, v) → u ≡ v)
        (fit : (p u : ℕ) → p < length rows → u < length rows → R (p, u) → T (heads_fit rows p u)) where
      can_visit : (p : ℕ) → p < length rows → (l : List ℕ) → Held l → (m : List ℕ) × (visit rows p l ≡ some m)
      unfolding visit sent
      can_visit p h l held = go (ltb (byte l p) (length rows)) refl
        where
          u : ℕ
          u = byte l p

          go : (a : Bool) → ltb (byte l p) (length rows) ≡ a
              → (m : List ℕ) × (cond a (cond (heads_fit rows p u) (demands (part_wishes rows p u) l) none) (some l) ≡ some m)
          go false e = (l, refl)
          go true e =
              let k : u < length rows = ltb-true (byte l p) (length rows) e in
              let r = known p h held k in
              let t = fit p u h k r in
              let args = down p u h k t r in
              let (m, d) = all_met R one (part_wishes rows p u) l held.long (places p u h k t) args held.every in
              (m, rw (T_true (heads_fit rows p u) t) d)

      pub can_pass : (p : ℕ) → p ≤ length rows → (l : List ℕ) → Held l → (m : List ℕ) × (pass rows p l ≡ some m)
      unfolding pass
      can_pass zero h l held = (l, refl)
      can_pass (suc p) h l held =
          let (x, v) = can_visit p h l held in
          let (m, r) = can_pass p (omega arith) x (visit_held p h held (visited p l v)) in
          (m, onward (visit rows p l) (pass rows p) v r)
