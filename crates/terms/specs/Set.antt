-- A `TermSet` as a set of numbers.
use Rattle.std.specs.Prelude.{ℕ, zero, suc, ◌+◌, ◌/◌, ◌%◌, ◌^◌, ◌≤◌, ◌<◌, ◌≡◌, Bool, true, false, ◌||◌, ◌&&◌, ◌↔◌, get_or, eqb}
use mathlib.Core.List.{List, Memᴰ}
use Rattle.terms.specs.declared.TermSet.{TermSet}

-- whether bit k of w is set
unfoldable pub bit : ℕ → ℕ → Bool
bit w k = eqb (w / 2 ^ k % 2) 1

-- whether number k is in the set that the words hold: bit k % 64 of word k / 64
unfoldable pub member : List ℕ → ℕ → Bool
member ws k = bit (get_or ws (k / 64) 0) (k % 64)

abbrev pub mem : TermSet → ℕ → Bool
mem s k = member s.words k

-- k is in the set
infix 50 ◌∈◌
abbrev pub ◌∈◌ : ℕ → TermSet → Type 0
k ∈ s = mem s k ≡ true

-- all of s is in r
infix 50 ◌⊆◌
abbrev pub ◌⊆◌ : TermSet → TermSet → Type 0
s ⊆ r = (k : ℕ) → k ∈ s → k ∈ r

-- the words r have what s have, and t too if it is so
pub record Added (t : ℕ) (so : Bool) (s r : List ℕ) : Type 0 where
  pub at : (k : ℕ) → member r k ≡ (member s k || (so && eqb k t))

-- of the numbers below n, the set has those at which the test answers true, and it has no others
pub record HasThose (n : ℕ) (Answers : ℕ → Bool → Type 0) (s : TermSet) : Type 0 where
  pub at : (k : ℕ) → k < n → Answers k (mem s k)
  pub past : (k : ℕ) → n ≤ k → mem s k ≡ false

-- the set has the numbers of the list
pub record IsSetOf (l : List ℕ) (s : TermSet) : Type 0 where
  pub at : (k : ℕ) → (k ∈ s) ↔ Memᴰ k l

-- 1 for true and 0 for false
abbrev pub one_if : Bool → ℕ
one_if true = 1
one_if false = 0

-- how many numbers below n pass the test p
unfoldable pub count : (ℕ → Bool) → ℕ → ℕ
count p zero = 0
count p (suc n) = count p n + one_if (p n)

-- how many numbers are in the set
abbrev pub size : TermSet → ℕ
size s = count (mem s) 256

-- n is the size of s: how many numbers are in it, and none is 256 or more
pub record IsSize (s : TermSet) (n : ℕ) : Type 0 where
  pub exact : n ≡ size s
  pub most : n ≤ 256
  pub small : (k : ℕ) → k ∈ s → k < 256
