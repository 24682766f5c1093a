-- What is known of an accepted table, and of two of its terms.
use Rattle.std.specs.Prelude.{List, ℕ, ◌<◌}
use Rattle.theory.specs.GoodTable.{Good}
use Rattle.tables.specs.Layout.{term_count}
use Rattle.tables.specs.Tables.{byte, rows_in, Filled}
use Rattle.keys.specs.Inverted.{Inverted}

-- the table t of a good sheet, and the number of each term's inverse
pub record Ready (t inverses : List ℕ) : Type 0 where
  pub filled : Filled t
  pub good : Good (rows_in t)
  pub inverted : Inverted (rows_in t) inverses

-- p and u are terms
pub record Terms (t : List ℕ) (p u : ℕ) : Type 0 where
  pub source : p < byte t term_count
  pub target : u < byte t term_count
