-- `tables::blocks::put_strand` meets its contract.
-- Assumes nothing.
use mathlib.Core.Path.{refl}
use native.Mathlib.Omega.{arith}
use lib.ListN.{length-set}
use Rattle.tables.proofs.Stored.{put_set}
use Rattle.tables.proofs.StrandPuts.{strand_put}
use Rattle.tables.proofs.blocks.put_strand.Goals as goal

pub returns : goal.returns
returns c =
    rw (c.from-n.ensures, c.block_of-b.ensures)
    (strand_put _ _ _ _ _ c.args.k _ c.args.height c.requires.0.filled c.requires.0.there refl c.requires.0.room
    (omega arith) (rw (c.from.ensures, c.from-n.ensures, c.block_of-b.ensures) at c.put_events.ensures) (put_set _ _ _ (omega arith))
    (put_set _ _ _ (simp length-set (omega arith))))
