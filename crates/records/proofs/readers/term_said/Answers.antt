-- `records::readers::term_said` meets its contract.
-- Assumes nothing.
use Rattle.std.proofs.Common.{arith}
use Rattle.tables.specs.Tables.{rows_in}
use Rattle.tables.proofs.Right.{read_by_kinds, right_written}
use Rattle.records.proofs.Tests.{check_pass, check_fail, refuses, tells}
use Rattle.records.proofs.readers.term_said.Goals as goal

pub returns-then-not-row_right : goal.returns-then-not-row_right
returns-then-not-row_right c =
    λ rest. refuses _ rest (rw (read_by_kinds, ← c.row_right.ensures) (grind (arith, check_fail)))

pub on_sheet-requires : goal.on_sheet-requires
on_sheet-requires c = (c.requires, right_written (rows_in c.args.table.now) c.args.row (cc))

pub returns-then-on_sheet : goal.returns-then-on_sheet
returns-then-on_sheet c =
    λ rest. refuses _ rest (rw (read_by_kinds, ← c.row_right.ensures, ← c.on_sheet.ensures) (grind (arith, check_pass, check_fail)))

pub returns : goal.returns
returns c =
    λ rest. tells _ rest (right_written (rows_in c.args.table.now) c.args.row (cc))
    (rw (read_by_kinds, ← c.row_right.ensures, ← c.on_sheet.ensures) (grind (arith, check_pass)))
