-- `tables::blocks::put_events` meets its contract. The loop's invariant: the first i events are in the table.
-- Assumes nothing.
use native.Mathlib.Omega.{arith}
use mathlib.Core.Path.{◌≡◌}
use lib.ListN.{length-set}
use Rattle.tables.proofs.Stored.{put_set}
use Rattle.tables.proofs.StrandPuts.{events_none, events_more}
use Rattle.tables.proofs.blocks.put_events.Goals as goal

pub loop-i-init : goal.loop-i-init
loop-i-init c = events_none _ _ _ _

pub loop-i-preserved : goal.loop-i-preserved
loop-i-preserved c =
    let l = c.loop-i in
    events_more (omega arith) (omega arith) l.invariant (put_set _ _ _ (omega (arith, l.invariant.long)))
    (put_set _ _ _ (simp length-set (omega (arith, l.invariant.long))))

pub returns : goal.returns
returns c =
    let e : c.loop-i.i ≡ c.args.height = omega arith in
    rw (← e) c.loop-i.invariant
