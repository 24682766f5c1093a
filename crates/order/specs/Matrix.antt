-- What becomes of a matrix: a pair or a row stored, a relation added, the ways through a node added, closed. What may
-- be in one.
use Rattle.std.specs.Prelude.{◌≡◌, true, false, ◌&&◌, ◌||◌, List, ◌↔◌, ◌⊎◌, ℕ, ◌+◌, ◌*◌, ◌≤◌, ◌<◌, get_or, set}
use Rattle.std.specs.Int.Bits.{bit_or}
use Rattle.order.specs.Precedence.{on}

-- m with row k in row a
abbrev pub with_row : List ℕ → ℕ → ℕ → List ℕ
with_row m a k =
    set (set m (2 * a) (bit_or (get_or m (2 * a) 0) (get_or m (2 * k) 0))) (2 * a + 1)
    (bit_or (get_or m (2 * a + 1) 0) (get_or m (2 * k + 1) 0))

-- nothing is in row a
pub record Empty (m : List ℕ) (a : ℕ) : Type 0 where
  pub off : (b : ℕ) → b < 96 → on m a b ≡ false

-- nothing is in the rows from n on
pub record EmptyFrom (n : ℕ) (m : List ℕ) : Type 0 where
  pub row : (a : ℕ) → n ≤ a → a < 96 → Empty m a

-- m' has what is in m, and what R relates
pub record Adds (R : ℕ → ℕ → Type 0) (m m' : List ℕ) : Type 0 where
  pub at : (a b : ℕ) → a < 96 → b < 96 → (on m' a b ≡ true) ↔ ((on m a b ≡ true) ⊎ R a b)

-- m' has what is in m, and the ways through k
pub record Through (m : List ℕ) (k : ℕ) (m' : List ℕ) : Type 0 where
  pub at : (a b : ℕ) → a < 96 → b < 96 → on m' a b ≡ (on m a b || (on m a k && on m k b))

-- a way from node to node whose every step is in m
pub data Way (m : List ℕ) : ℕ → ℕ → Type 0 where
  step : {a b : ℕ} → a < 96 → b < 96 → on m a b ≡ true → Way m a b
  then : {a b c : ℕ} → Way m a b → Way m b c → Way m a c

-- m' says between which nodes m has a way
pub record Closed (m m' : List ℕ) : Type 0 where
  pub at : (a b : ℕ) → a < 96 → b < 96 → (on m' a b ≡ true) ↔ Way m a b

-- some node is in its own row
pub record Looped (m : List ℕ) : Type 0 where
  pub node : ℕ
  pub row : node < 96
  pub own : on m node node ≡ true
