-- `mapping::write_images` meets its contract: the bytes of the terms that were passed are written. Assumes nothing.
use Prim.Native.Nat.{◌<◌}
use native.Mathlib.Omega.{arith}
use lib.ListN.{length}
use Rattle.tables.proofs.Look.{count_is}
use Rattle.mapping.proofs.Writing.{over_none, over_more, all_written}
use Rattle.mapping.proofs.write_images.Goals as goal

pub loop-i-init : goal.loop-i-init
loop-i-init c = over_none _ _

pub loop-i-preserved : goal.loop-i-preserved
loop-i-preserved c =
    let h : c.loop-i.i < length c.args.lent.now = omega (arith, c.requires.2) in
    rw c.from.ensures (over_more _ _ _ _ _ h c.loop-i.invariant c.shown.ensures)

pub returns : goal.returns
returns c = all_written c.variables-variables.ensures (omega (arith, count_is c.args.table.now)) c.loop-i.invariant
