use mathlib.Core.Path.{◌≡◌}
use Rattle.model.specs.Lists.{some_of, upto}
use Rattle.model.specs.Table.{alike}
use Rattle.tables.specs.Tables.{row_at}
use Rattle.tables.specs.Rows.{row_of}
use Rattle.tables.proofs.rows.on_sheet.Given as goal

abbrev pub invariant-loop-i : goal.invariant-loop-i
invariant-loop-i l = l.found ≡ some_of (λ q. alike q (row_of l.row)) (upto l.i (row_at l.table))
