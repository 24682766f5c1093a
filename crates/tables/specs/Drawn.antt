-- A skeleton in a table that was read, whose block begins at b of the table t.
use Rattle.std.specs.Prelude.{List, ℕ, ◌+◌, ◌≤◌}
use Rattle.model.specs.Sheet.{Drawing}
use Rattle.theory.specs.GoodTable.{Good}
use Rattle.theory.specs.OnTable.{OnTable}
use Rattle.tables.specs.Layout.{block_size, table_size}
use Rattle.tables.specs.Tables.{rows_in, skeleton_at, Block, Filled}

-- the skeleton, with the sheet's terms
abbrev pub drawing : List ℕ → ℕ → Drawing
drawing t b = record { rows = rows_in t; skeleton = skeleton_at t b }

-- the table is filled and its terms are good; the block lies in it, and what it names is there
pub record Drawn (t : List ℕ) (b : ℕ) : Type 0 where
  pub filled : Filled t
  pub good : Good (rows_in t)
  pub inside : b + block_size ≤ table_size
  pub block : Block t b
  pub on_table : OnTable (rows_in t) (skeleton_at t b)
