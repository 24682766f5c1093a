-- What the rows below a number say of each term's inverse.
use Rattle.std.specs.Prelude.{◌≡◌, ◌≢◌, List, ℕ, ◌<◌, length}
use Rattle.model.specs.Table.{Row, Inv, row}
use Rattle.tables.specs.Tables.{byte}

-- the first n numbers are their own
pub record Own (n : ℕ) (inverses : List ℕ) : Type 0 where
  pub long : length inverses ≡ 200
  pub at : (k : ℕ) → k < n → byte inverses k ≡ k

-- by the rows below m: the key of which k is the inverse, or the inverse of the key k, or k itself
pub data Partner (rows : List Row) (m k : ℕ) : ℕ → Type 0 where
  of_inverse : {a : ℕ} → k < m → row rows k ≡ Inv a → Partner rows m k a
  of_key : {j : ℕ} → j < m → row rows j ≡ Inv k → Partner rows m k j
  of_other : ((a : ℕ) → k < m → row rows k ≢ Inv a) → ((j : ℕ) → j < m → row rows j ≢ Inv k) → Partner rows m k k

pub record Partners (rows : List Row) (m : ℕ) (inverses : List ℕ) : Type 0 where
  pub long : length inverses ≡ 200
  pub at : (k : ℕ) → k < length rows → Partner rows m k (byte inverses k)
