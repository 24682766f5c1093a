-- `tables::rows::put_row` meets its contract.
-- Assumes nothing.
use mathlib.Core.Path.{refl}
use native.Mathlib.Omega.{arith}
use lib.ListN.{length-set}
use Rattle.tables.proofs.Stored.{put_set}
use Rattle.tables.proofs.RowPuts.{row_put}
use Rattle.tables.proofs.rows.put_row.Goals as goal

pub returns : goal.returns
returns c =
    rw c.from-n.ensures
    (row_put refl (omega arith) (put_set _ _ _ (omega arith)) (put_set _ _ _ (simp length-set (omega arith)))
    (put_set _ _ _ (simp length-set (omega arith))) (put_set _ _ _ (simp length-set (omega arith))) c.requires.2 c.requires.0)
