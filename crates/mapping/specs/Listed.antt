-- The NO and UO records of a table name atoms.
use Rattle.std.specs.Prelude.{List, ℕ, ◌<◌, T}
use Rattle.model.specs.Reading.{an_atom}
use Rattle.theory.specs.Each.{Each}
use Rattle.tables.specs.Layout.{skeleton_count}
use Rattle.tables.specs.Tables.{byte, rows_in, skeleton_in}

pub record AtomsListed (t : List ℕ) : Type 0 where
  pub nons : (k : ℕ) → k < byte t skeleton_count → Each (λ a. T (an_atom (rows_in t) a)) (skeleton_in t k).non
  pub uniqs : (k : ℕ) → k < byte t skeleton_count → Each (λ a. T (an_atom (rows_in t) a)) (skeleton_in t k).uniq
