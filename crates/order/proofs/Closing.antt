-- Warshall's closure: the ways through a node added row by row, and through all nodes one after the other. Assumes nothing.
use mathlib.Core.Path.{◌≡◌, refl, sym, ◌∙◌}
use mathlib.Core.Bool.{Bool, true, false, ◌&&◌, ◌||◌, or-true, or-false, and-false, true≢false}
use mathlib.Core.List.{List}
use mathlib.Core.Logic.{◌⊎◌, ⊎_elim, inl, inr}
use Prim.Native.Nat.{ℕ, ◌+◌, ◌≤◌, ◌<◌}
use native.Mathlib.Omega.{arith}
use native.Mathlib.Decide.{ℕ_discrete, dec_lt}
use lib.ListN.{length, length-set}
use Rattle.order.specs.Precedence.{on}
use Rattle.order.specs.Matrix.{with_row, Empty, EmptyFrom, Through, Way, step, then, Closed}
use Rattle.order.proofs.Rows.{on_row, on_row_other}

-- m is m₀ with the ways through k added in the rows below i
pub record Partly (m₀ : List ℕ) (k i : ℕ) (m : List ℕ) : Type 0 where
  pub long : length m ≡ 192
  pub done : (a b : ℕ) → a < i → b < 96 → on m a b ≡ (on m₀ a b || (on m₀ a k && on m₀ k b))
  pub rest : (a b : ℕ) → i ≤ a → b < 96 → on m a b ≡ on m₀ a b

absorb : (x y : Bool) → (y || (x && y)) ≡ y
absorb false false = refl
absorb false true = refl
absorb true false = refl
absorb true true = refl

module _ (m₀ : List ℕ) (k : ℕ) where
  pub partly_none : length m₀ ≡ 192 → Partly m₀ k 0 m₀
  partly_none long = record { long = long; done = λ a b l hb. absurd (omega arith); rest = λ a b l hb. refl }

  module _ (i : ℕ) (m : List ℕ) (p : Partly m₀ k i m) where
    -- the row of k itself stays
    row_kept : (b : ℕ) → b < 96 → on m k b ≡ on m₀ k b
    row_kept b hb =
        elim (dec_lt k i) [ yes l ↦ p.done k b l hb ∙ absorb (on m₀ k k) (on m₀ k b) | no l ↦ p.rest k b (omega arith) hb ]

    pub partly_skip : k < 96 → on m i k ≡ false → Partly m₀ k (i + 1) m
    partly_skip hk off = record { long = p.long; done = done; rest = λ a b l hb. p.rest a b (omega arith) hb }
      where
        off₀ : on m₀ i k ≡ false
        off₀ = sym (p.rest i k (omega arith) hk) ∙ off

        done : (a b : ℕ) → a < i + 1 → b < 96 → on m a b ≡ (on m₀ a b || (on m₀ a k && on m₀ k b))
        done a b l hb =
            elim (ℕ_discrete a i) [
              | yes e ↦ rw (e, p.rest i b (omega arith) hb, off₀, or-false)
              | no ne ↦ p.done a b (omega arith) hb
            ]

    pub partly_join : i < 96 → k < 96 → on m i k ≡ true → Partly m₀ k (i + 1) (with_row m i k)
    partly_join hi hk set =
        record {
          long = simp length-set p.long;
          done = done;
          rest = λ a b l hb. on_row_other m i k a b (omega arith) hb ∙ p.rest a b (omega arith) hb;
        }
      where
        set₀ : on m₀ i k ≡ true
        set₀ = sym (p.rest i k (omega arith) hk) ∙ set

        done : (a b : ℕ) → a < i + 1 → b < 96 → on (with_row m i k) a b ≡ (on m₀ a b || (on m₀ a k && on m₀ k b))
        done a b l hb =
            elim (ℕ_discrete a i) [
              | yes e ↦ rw (e, on_row m p.long i k b hi hb, p.rest i b (omega arith) hb, row_kept b hb, set₀)
              | no ne ↦ on_row_other m i k a b ne hb ∙ p.done a b (omega arith) hb
            ]

  -- rows that are empty need no visit
  pub partly_all : (i : ℕ) (m : List ℕ) → k < 96 → EmptyFrom i m₀ → Partly m₀ k i m → Through m₀ k m
  partly_all i m hk empty p =
      record {
        at = λ a b ha hb. elim (dec_lt a i) [
          | yes l ↦ p.done a b l hb
          | no l ↦
              let none = empty.row a (omega arith) ha in
              rw (p.rest a b (omega arith) hb, none.off b hb, none.off k hk)
        ];
      }

  -- and no way goes through a node whose row is empty
  pub through_none : Empty m₀ k → Through m₀ k m₀
  through_none none = record { at = λ a b ha hb. rw (none.off b hb, and-false, or-false) }

  pub through_empty : (n : ℕ) (m : List ℕ) → k < 96 → EmptyFrom n m₀ → Through m₀ k m → EmptyFrom n m
  through_empty n m hk empty t =
      record {
        row = λ a l ha. let none = empty.row a l ha in
            record { off = λ b hb. rw (t.at a b ha hb, none.off b hb, none.off k hk) };
      }

-- the rows of m from n on are empty; m has ways of m₀ at most; the steps of m₀; and the ways through each node below k
pub record Reached (m₀ : List ℕ) (n k : ℕ) (m : List ℕ) : Type 0 where
  pub empty : EmptyFrom n m
  pub sound : (a b : ℕ) → a < 96 → b < 96 → on m a b ≡ true → Way m₀ a b
  pub keeps : (a b : ℕ) → a < 96 → b < 96 → on m₀ a b ≡ true → on m a b ≡ true
  pub joins : (a c b : ℕ) → a < 96 → c < k → b < 96 → on m a c ≡ true → on m c b ≡ true → on m a b ≡ true

or_cases : (x y z : Bool) → (x || (y && z)) ≡ true → (x ≡ true) ⊎ ((y ≡ true) × (z ≡ true))
or_cases true y z e = inl refl
or_cases false true z e = inr (refl, e)
or_cases false false z e = absurd (true≢false (sym e))

module _ (m₀ : List ℕ) (n : ℕ) where
  pub reached_none : EmptyFrom n m₀ → Reached m₀ n 0 m₀
  reached_none empty =
      record {
        empty = empty;
        sound = λ a b ha hb e. step ha hb e;
        keeps = λ a b ha hb e. e;
        joins = λ a c b ha l hb p q. absurd (omega arith);
      }

  module _ (k : ℕ) (m m' : List ℕ) (hk : k < 96) (r : Reached m₀ n k m) (t : Through m k m') where
    cases : (a b : ℕ) → a < 96 → b < 96 → on m' a b ≡ true → (on m a b ≡ true) ⊎ ((on m a k ≡ true) × (on m k b ≡ true))
    cases a b ha hb e = or_cases _ _ _ (sym (t.at a b ha hb) ∙ e)

    direct : (a b : ℕ) → a < 96 → b < 96 → on m a b ≡ true → on m' a b ≡ true
    direct a b ha hb e = rw (t.at a b ha hb, e)

    around : (a b : ℕ) → a < 96 → b < 96 → on m a k ≡ true → on m k b ≡ true → on m' a b ≡ true
    around a b ha hb p q = rw (t.at a b ha hb, p, q, or-true)

    -- to the node k itself nothing is added, and nothing from it
    to_k : (a : ℕ) → a < 96 → on m' a k ≡ true → on m a k ≡ true
    to_k a ha e = ⊎_elim (λ p. p) (λ w. w.0) (cases a k ha hk e)

    from_k : (b : ℕ) → b < 96 → on m' k b ≡ true → on m k b ≡ true
    from_k b hb e = ⊎_elim (λ p. p) (λ w. w.1) (cases k b hk hb e)

    sound : (a b : ℕ) → a < 96 → b < 96 → on m' a b ≡ true → Way m₀ a b
    sound a b ha hb e =
        ⊎_elim
        (λ p. r.sound a b ha hb p)
        (λ w. then (r.sound a k ha hk w.0) (r.sound k b hk hb w.1))
        (cases a b ha hb e)

    joins_below : (a c b : ℕ) → a < 96 → c < k → b < 96 → on m' a c ≡ true → on m' c b ≡ true → on m' a b ≡ true
    joins_below a c b ha hc hb p q =
        let second = cases c b (omega arith) hb q in
        ⊎_elim
        (λ p₁. ⊎_elim
        (λ q₁. direct a b ha hb (r.joins a c b ha hc hb p₁ q₁))
        (λ q₂. around a b ha hb (r.joins a c k ha hc hk p₁ q₂.0) q₂.1)
        second)
        (λ p₂. ⊎_elim
        (λ q₁. around a b ha hb p₂.0 (r.joins k c b hk hc hb p₂.1 q₁))
        (λ q₂. around a b ha hb p₂.0 q₂.1)
        second)
        (cases a c ha (omega arith) p)

    joins : (a c b : ℕ) → a < 96 → c < k + 1 → b < 96 → on m' a c ≡ true → on m' c b ≡ true → on m' a b ≡ true
    joins a c b ha hc hb p q =
        elim (ℕ_discrete c k) [
          | yes e ↦ around a b ha hb (to_k a ha (rw e at p)) (from_k b hb (rw e at q))
          | no ne ↦ joins_below a c b ha (omega arith) hb p q
        ]

    pub reached_more : Reached m₀ n (k + 1) m'
    reached_more =
        record {
          empty = through_empty m k n m' hk r.empty t;
          sound = sound;
          keeps = λ a b ha hb e. direct a b ha hb (r.keeps a b ha hb e);
          joins = joins;
        }

  module _ (k : ℕ) (all : n ≤ k) (m : List ℕ) (r : Reached m₀ n k m) where
    inside : {a b : ℕ} → Way m₀ a b → (a < 96) × (b < 96)
    inside (step ha hb e) = (ha, hb)
    inside (then p q) = ((inside p).0, (inside q).1)

    -- a node that a way goes on from has a row that is not empty
    early : (c b : ℕ) → c < 96 → b < 96 → on m c b ≡ true → c < k
    early c b hc hb e =
        elim (dec_lt c k) [
          | yes l ↦ l
          | no l ↦ absurd (true≢false (sym e ∙ (r.empty.row c (omega arith) hc).off b hb))
        ]

    complete : {a b : ℕ} → Way m₀ a b → on m a b ≡ true
    complete (step ha hb e) = r.keeps _ _ ha hb e
    complete (then p q) =
        let hc = (inside p).1 in
        let hb = (inside q).1 in
        let second = complete q in r.joins _ _ _ (inside p).0 (early _ _ hc hb second) hb (complete p) second

    pub reached_all : Closed m₀ m
    reached_all = record { at = λ a b ha hb. (r.sound a b ha hb, complete) }
