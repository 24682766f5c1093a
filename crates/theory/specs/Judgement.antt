-- What a sheet that was read is, and what an accepted sheet is.
use Rattle.std.proofs.Math.Path.{◌≡◌}
use Rattle.std.specs.Prelude.{ℕ, ◌<◌, length}
use Rattle.model.specs.Table.{row}
use Rattle.model.specs.Sheet.{Sheet, Drawing, meant, HasSkeleton}
use Rattle.theory.specs.GoodTable.{Good, Earlier, Sorted}
use Rattle.theory.specs.Skeletons.{IsSkeleton}
use Rattle.theory.specs.OnTable.{OnTable}

-- what reading alone gives
pub record Raw (s : Sheet) : Type 0 where
  pub earlier : (i : ℕ) → i < length s.rows → Earlier i (row s.rows i)
  pub sorted : (i : ℕ) → i < length s.rows → Sorted (row s.rows) (row s.rows i)
  pub distinct : (i j : ℕ) → i < length s.rows → j < length s.rows → row s.rows i ≡ row s.rows j → i ≡ j
  pub drawings : (k : ℕ) (D : Drawing) → HasSkeleton k s D → OnTable D.rows D.skeleton

-- what acceptance adds
pub record Sound (s : Sheet) : Type 0 where
  pub good : Good s.rows
  pub drawings : (k : ℕ) (D : Drawing) → HasSkeleton k s D → OnTable D.rows D.skeleton
  pub skeletons : (k : ℕ) (D : Drawing) → HasSkeleton k s D → IsSkeleton (meant D)
