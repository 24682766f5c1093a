-- `tables::rows::on_sheet` meets its contract. The loop's invariant: found is whether the row is among the first i.
-- Assumes nothing.
use native.Mathlib.Omega.{arith}
use mathlib.Core.Path.{◌∙◌}
use Rattle.theory.specs.Upto.{some_none, some_next}
use Rattle.tables.proofs.Look.{alike_bytes, all_searched}
use Rattle.tables.proofs.rows.on_sheet.Goals as goal

pub loop-i-init : goal.loop-i-init
loop-i-init c = some_none _ _

pub loop-i-preserved : goal.loop-i-preserved
loop-i-preserved c =
    let l = c.loop-i in
    some_next _ _ _ _ _ l.invariant
    (c.is_row-found.ensures ∙ alike_bytes _ _ _ (c.requires.0.encoded l.i (omega arith)) c.requires.1)

pub returns : goal.returns
returns c = all_searched c.args.table.now c.loop-i.i _ _ (omega arith) c.loop-i.invariant
