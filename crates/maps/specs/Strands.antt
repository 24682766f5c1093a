-- What the test of rule 2 looks at, in the bytes of a table t: the blocks at a and b.
use Rattle.std.specs.Prelude.{◌≡◌, List, ℕ, ◌+◌, ◌*◌, ◌≤◌, ◌<◌, eqb}
use Rattle.tables.specs.Layout.{heights, directions}
use Rattle.tables.specs.Tables.{byte}

-- the n directions from i on and from j on are equal: 0 is a send, anything else a reception
pub record SameDirections (t : List ℕ) (i j n : ℕ) : Type 0 where
  pub at : (p : ℕ) → p < n → eqb (byte t (i + p)) 0 ≡ eqb (byte t (j + p)) 0

-- the strand s may go to the strand u
pub record StrandKept (t : List ℕ) (a b s u : ℕ) : Type 0 where
  pub high : byte t (a + heights + s) ≤ byte t (b + heights + u)
  pub same : SameDirections t (a + directions + 16 * s) (b + directions + 16 * u) (byte t (a + heights + s))
