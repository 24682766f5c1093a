-- The candidate strand maps by number: the digits of a number to the base of the target's strands, the first digit weighs most.
use Rattle.std.specs.Prelude.{Bool, cond, List, [], ◌∷◌, ◌++◌, ℕ, zero, suc, ◌/◌, ◌%◌, ◌^◌}

-- as many digits as the source has strands
unfoldable pub digits : ℕ → ℕ → ℕ → List ℕ
digits zero base c = []
digits (suc n) base c = (c / base ^ n) ∷ digits n base (c % base ^ n)

-- the digits of the numbers below c that pass the test
unfoldable pub passing : ℕ → ℕ → (ℕ → Bool) → ℕ → List (List ℕ)
unfolding digits
passing n base test zero = []
passing n base test (suc c) = passing n base test c ++ cond (test c) (digits n base c ∷ []) []
