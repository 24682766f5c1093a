-- `tables::blocks::put_skeleton` meets its contract.
-- Assumes nothing.
use mathlib.Core.Path.{refl}
use native.Mathlib.Omega.{arith}
use lib.ListN.{length-set}
use Rattle.tables.proofs.Stored.{put_set}
use Rattle.tables.proofs.Begins.{begun}
use Rattle.tables.proofs.blocks.put_skeleton.Goals as goal

pub returns : goal.returns
returns c =
    rw c.block_of-b.ensures
    (begun _ c.requires.0 refl (omega arith) (put_set _ _ _ (omega arith))
    (put_set _ _ _ (simp length-set (omega arith))) (put_set _ _ _ (simp length-set (omega arith)))
    (put_set _ _ _ (simp length-set (omega arith))) (put_set _ _ _ (simp length-set (omega arith))))
