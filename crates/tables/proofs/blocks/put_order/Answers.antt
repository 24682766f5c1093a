-- `tables::blocks::put_order` meets its contract.
-- Assumes nothing.
use mathlib.Core.Path.{refl}
use native.Mathlib.Omega.{arith}
use lib.ListN.{length-set}
use Rattle.model.specs.Says.{node_of}
use Rattle.tables.proofs.Stored.{put_set}
use Rattle.tables.proofs.BlockPuts.{order_put}
use Rattle.tables.proofs.blocks.put_order.Goals as goal

pub returns : goal.returns
unfolding node_of
returns c =
    rw (c.from.ensures, c.block_of-b.ensures)
    (order_put _ _ _ _ _ _ c.args.k _ (node_of c.args.send) (node_of c.args.reception) c.requires.filled c.requires.there
    refl c.requires.room (put_set _ _ _ (omega arith)) (put_set _ _ _ (simp length-set (omega arith)))
    (put_set _ _ _ (simp length-set (omega arith))) (put_set _ _ _ (simp length-set (omega arith)))
    (put_set _ _ _ (simp length-set (omega arith))))
