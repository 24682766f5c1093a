-- What `any` says of the numbers from a on, where a test is asked of each. Assumes nothing.
use mathlib.Core.Path.{◌≡◌, refl, sym}
use mathlib.Core.Bool.{Bool, true, false, true≢false}
use Prim.Native.Nat.{ℕ, zero, suc, ◌+◌, ◌≤◌, ◌<◌}
use native.Mathlib.Omega.{arith}
use native.Mathlib.Decide.{ℕ_discrete}
use Rattle.std.specs.List.{list_any, range_with_len}

module _ (test : ℕ → Bool) where
  -- a number below n that the test answers with `said`
  pub record Found (said : Bool) (n : ℕ) : Type 0 where
    pub number : ℕ
    pub below : number < n
    pub is : test number ≡ said

  -- the test answers all numbers from a up to n with `said`
  abbrev pub AllFrom : Bool → ℕ → ℕ → Type 0
  AllFrom said a n = (k : ℕ) → a ≤ k → k < n → test k ≡ said

  one_more : {said : Bool} (a n : ℕ) → test a ≡ said → AllFrom said (a + 1) (a + 1 + n) → AllFrom said a (a + suc n)
  one_more a n p rest k l h = elim (ℕ_discrete k a) [ yes q ↦ rw q p | no ne ↦ rest k (omega arith) (omega arith) ]

  later : {said : Bool} (a n : ℕ) → Found said (a + 1 + n) → Found said (a + suc n)
  later a n w = record { number = w.number; below = omega (arith, w.below); is = w.is }

  pub any_found : (a n : ℕ) → list_any test (range_with_len a n) ≡ true → Found true (a + n)
  any_found a zero e = absurd (true≢false (sym e))
  any_found a (suc n) e = go (test a) refl (any_found (a + 1) n)
    where
      go : (b : Bool) → test a ≡ b → (list_any test (range_with_len (a + 1) n) ≡ true → Found true (a + 1 + n))
          → Found true (a + suc n)
      go true p rest = record { number = a; below = omega arith; is = p }
      go false p rest = later a n (rest (rw p at e))

  pub any_none : (a n : ℕ) → list_any test (range_with_len a n) ≡ false → AllFrom false a (a + n)
  any_none a zero e = λ k l h. absurd (omega arith)
  any_none a (suc n) e = go (test a) refl (any_none (a + 1) n)
    where
      go : (b : Bool) → test a ≡ b → (list_any test (range_with_len (a + 1) n) ≡ false → AllFrom false (a + 1) (a + 1 + n))
          → AllFrom false a (a + suc n)
      go true p rest = absurd (true≢false (rw p at e))
      go false p rest = one_more a n p (rest (rw p at e))
