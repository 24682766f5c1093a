-- A set that grows step by step: while it grows something is left to add, and when it does not it is closed.
use mathlib.Core.Path.{◌≡◌}
use Prim.Native.Nat.{ℕ, ◌-◌, ◌<◌}
use native.Mathlib.Omega.{arith}
use Rattle.terms.specs.declared.TermSet.{TermSet}
use Rattle.terms.specs.Set.{mem, size, IsSize}
use Rattle.terms.proofs.Count.{count_most, count_grows, count_same}
use Rattle.theory.specs.Rules.{Rule}
use Rattle.stranger.specs.Steps.{Has, Grown, Step, Closure}
use Rattle.stranger.proofs.Steps.{grown_then}

module _ {P : Rule → Type 0} {r t : TermSet} (step : Step P r.words t.words) where
  pub grown_more : {s : TermSet} → Grown P s.words r.words → Grown P s.words t.words
  grown_more g = grown_then (λ q h. h) (λ q h. h) g step.grown

  module _ {m n : ℕ} (sizeᵗ : IsSize t n) (sizeʳ : IsSize r m) where
    step_less : ¬ (n ≡ m) → 256 - size t < 256 - size r
    step_less more =
        omega (arith, sizeᵗ.exact, sizeʳ.exact, count_most (mem t) 256, count_grows (mem r) (mem t) step.grown.grows 256)

    -- also against a smaller set
    pub less_than : (s : TermSet) → ((k : ℕ) → Has s.words k → Has r.words k) → ¬ (n ≡ m) → 256 - size t < 256 - size s
    less_than s grows more = omega (arith, step_less more, count_grows (mem s) (mem r) grows 256)

    -- a step that adds nothing has all
    settled : n ≡ m → (k : ℕ) → Has t.words k → Has r.words k
    settled same k h =
        count_same (mem r) (mem t) step.grown.grows 256 (omega (arith, sizeᵗ.exact, sizeʳ.exact)) k (sizeᵗ.small k h) h

    pub closure : {s : TermSet} → Grown P s.words r.words → n ≡ m → Closure P s.words t.words
    closure g same =
        record { grown = grown_more g; closed = λ q h ready. step.closes q h (λ i k. settled same i (ready i k)) }
