-- How many digits a number has.
use mathlib.Core.Path.{◌≡◌, refl}
use mathlib.Core.Bool.{Bool, true, false}
use mathlib.Core.List.{[], ◌∷◌, ◌++◌}
use Prim.Native.Nat.{ℕ, zero, suc, ◌+◌, ◌/◌, ◌%◌, ◌≤◌, ◌<◌, ◌^◌}
use native.Mathlib.Nat.{pow-suc}
use native.Mathlib.Omega.{arith}
use lib.Dec.{ltb}
use lib.ListN.{length, length-append}
use borrow.Author.Tests.{lt-ltb, le-ltb, ltb-true, ltb-false}
use Rattle.model.specs.Lines.{decimal}
use Rattle.model.proofs.LinesLaws.{decimal_law}

-- a number below ten is a digit; any other is a number and a digit
pub one_digit : (n : ℕ) → n < 10 → decimal n ≡ (48 + n) ∷ []
one_digit n h = rw (decimal_law n, lt-ltb n 10 h)

pub last_digit : (n : ℕ) → 10 ≤ n → decimal n ≡ decimal (n / 10) ++ ((48 + n % 10) ∷ [])
last_digit n h = rw (decimal_law n, le-ltb n 10 h)

pub digits_less : (n : ℕ) → 10 ≤ n → length (decimal n) ≡ length (decimal (n / 10)) + 1
digits_less n h = rw (last_digit n h) (length-append (decimal (n / 10)) ((48 + n % 10) ∷ []))

pub few_digits : (k n : ℕ) → n < 10 ^ suc k → length (decimal n) ≤ suc k
few_digits zero n h = rw (one_digit n (omega arith)) (omega arith)
few_digits (suc k) n h = go (ltb n 10) refl (few_digits k (n / 10) (omega (arith, pow-suc 10 (suc k))))
  where
    go : (b : Bool) → ltb n 10 ≡ b → length (decimal (n / 10)) ≤ suc k → length (decimal n) ≤ suc (suc k)
    go true e l = rw (one_digit n (ltb-true n 10 e)) (omega arith)
    go false e l = rw (last_digit n (ltb-false n 10 e), length-append) (omega arith)

-- of a byte, and of any number that the code counts with
pub byte_digits : (n : ℕ) → n < 256 → length (decimal n) ≤ 3
byte_digits n h = few_digits 2 n (omega arith)

pub word_digits : (n : ℕ) → n < 2 ^ 64 → length (decimal n) ≤ 20
word_digits n h = few_digits 19 n (omega arith)
