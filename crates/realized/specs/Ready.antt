-- What is known of an accepted skeleton, whose block begins at b of the table t, and of what was made from it.
use Rattle.std.specs.Prelude.{List, ℕ}
use Rattle.model.specs.Table.{term}
use Rattle.model.specs.Skeleton.{means}
use Rattle.theory.specs.Skeletons.{IsSkeleton}
use Rattle.tables.specs.Tables.{rows_in, skeleton_at}
use Rattle.order.specs.Precedence.{Shows}
use Rattle.keys.specs.Inverted.{Inverted}

-- all that the stranger's reach is computed from: the matrix says its precedence
pub record Ready (t : List ℕ) (b : ℕ) (inverses before : List ℕ) : Type 0 where
  pub rules : IsSkeleton (means (term (rows_in t)) (skeleton_at t b))
  pub shows : Shows (skeleton_at t b) before
  pub inverted : Inverted (rows_in t) inverses
