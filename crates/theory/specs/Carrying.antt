-- A set of terms by a test of their numbers.
use Rattle.std.specs.Prelude.{◌≡◌, Bool, ℕ, ◌<◌, T, length}
use mathlib.Core.List.{List}
use Rattle.model.specs.Term.{Term}
use Rattle.model.specs.Table.{Row, term}

-- the terms whose numbers the test marks
pub record Marked (rows : List Row) (set : ℕ → Bool) (t : Term) : Type 0 where
  pub which : ℕ
  pub inside : which < length rows
  pub holds : T (set which)
  pub means : term rows which ≡ t
