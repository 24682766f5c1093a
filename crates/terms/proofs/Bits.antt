-- Laws of `bit`, whether a bit of a number is set. Assumes nothing.
use mathlib.Core.Path.{◌≡◌, refl, sym, ap, ap₂, ◌∙◌}
use mathlib.Core.Bool.{false, ◌||◌, ◌&&◌, not}
use Prim.Native.Nat.{ℕ, zero, suc, ◌+◌, ◌/◌, ◌%◌, ◌-◌, ◌^◌, ◌<◌, min, max}
use native.Mathlib.Nat.{div-one, pow-suc}
use native.Mathlib.Decide.{ℕ_discrete}
use native.Mathlib.Omega.{arith}
use mir.Syntax.{w64}
use lib.Bits.{bit_or, bit_and}
use lib.Arith.{lt-one}
use lib.Count.{ones, ones_step}
use lib.Dec.{eqb}
use borrow.Author.Tests.{eq-eqb, ne_eqb}
use Rattle.std.proofs.lemmas.Nat.Bits.{bit_at-zero, bit_at-suc, bit_at-lt, bit_at_or, bit_at_and, bit_at_not, bit_at-pow_same, bit_at-pow_other}
use Rattle.terms.specs.Set.{bit, count, one_if}
use Rattle.terms.proofs.Count.{count_none, count_first, count_ext}

ones_of_none : ones 0 ≡ 0
unfolding ones
ones_of_none = refl

-- bit k + 1 is bit k of the half
bit-suc : (w k : ℕ) → bit w (suc k) ≡ bit (w / 2) k
unfolding bit
bit-suc w k = ap (λ d. eqb d 1) (bit_at-suc w k)

-- 0 has no bit
pub bit_none : (k : ℕ) → bit 0 k ≡ false
unfolding bit
bit_none k = ap (λ d. eqb d 1) (bit_at-zero k)

-- ---- operations that go bit by bit

-- what holds of 0 and of 1 holds of each digit
digit : (P : ℕ → Type 0) → P 0 → P 1 → (x : ℕ) → x < 2 → P x
digit P p₀ p₁ zero h = p₀
digit P p₀ p₁ (suc zero) h = p₁
digit P p₀ p₁ (suc (suc x)) h = absurd (omega arith)

pub bit-or : (a b k : ℕ) → bit (bit_or a b) k ≡ (bit a k || bit b k)
unfolding bit
bit-or a b k =
    ap (λ d. eqb d 1) (bit_at_or a b k)
    ∙ digit (λ x. eqb (max x (b / 2 ^ k % 2)) 1 ≡ (eqb x 1 || eqb (b / 2 ^ k % 2) 1))
    (digit (λ y. eqb (max 0 y) 1 ≡ (eqb 0 1 || eqb y 1)) refl refl _ (bit_at-lt b k))
    (digit (λ y. eqb (max 1 y) 1 ≡ (eqb 1 1 || eqb y 1)) refl refl _ (bit_at-lt b k)) _ (bit_at-lt a k)

pub bit-and : (a b k : ℕ) → bit (bit_and a b) k ≡ (bit a k && bit b k)
unfolding bit
bit-and a b k =
    ap (λ d. eqb d 1) (bit_at_and a b k)
    ∙ digit (λ x. eqb (min x (b / 2 ^ k % 2)) 1 ≡ (eqb x 1 && eqb (b / 2 ^ k % 2) 1))
    (digit (λ y. eqb (min 0 y) 1 ≡ (eqb 0 1 && eqb y 1)) refl refl _ (bit_at-lt b k))
    (digit (λ y. eqb (min 1 y) 1 ≡ (eqb 1 1 && eqb y 1)) refl refl _ (bit_at-lt b k)) _ (bit_at-lt a k)

-- the 64 bits of x turned
pub bit_not : (x k : ℕ) → x < 2 ^ 64 → k < 64 → bit ((2 ^ 64 - 1) - x) k ≡ not (bit x k)
unfolding bit
bit_not x k h l =
    ap (λ d. eqb d 1) (bit_at_not w64 x k h l) ∙ digit (λ d. eqb (1 - d) 1 ≡ not (eqb d 1)) refl refl _ (bit_at-lt x k)

-- a power of two has one bit
pub bit-power : (j k : ℕ) → bit (2 ^ j) k ≡ eqb k j
unfolding bit
bit-power j k = go (ℕ_discrete k j)
  where
    go : Dec (k ≡ j) → eqb (2 ^ j / 2 ^ k % 2) 1 ≡ eqb k j
    go (yes p) = rw p (ap (λ d. eqb d 1) (bit_at-pow_same j) ∙ sym (eq-eqb j j refl))
    go (no n) = ap (λ d. eqb d 1) (bit_at-pow_other j k n) ∙ sym (ne_eqb k j n)

-- a digit that is 1 counts 1
lowest : (w : ℕ) → w % 2 ≡ one_if (bit w 0)
unfolding bit
lowest w = rw (div-one w) (digit (λ d. d ≡ one_if (eqb d 1)) refl refl (w % 2) (omega arith))

-- `ones` counts the bits that are set
pub ones_count : (n w : ℕ) → w < 2 ^ n → ones w ≡ count (bit w) n
ones_count zero w h = ap ones (lt-one h) ∙ ones_of_none ∙ sym (count_none (bit w))
ones_count (suc n) w h =
    ones_step w
    ∙ ap₂ (λ (x y : ℕ). x + y) (lowest w)
    (ones_count n (w / 2) (omega (arith, pow-suc 2 n)) ∙ count_ext _ _ n (λ k l. sym (bit-suc w k)))
    ∙ sym (count_first (bit w) n)
