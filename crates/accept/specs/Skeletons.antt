-- The skeletons of the sheet in a table, by their numbers.
use Rattle.std.specs.Prelude.{◌≡◌, List, ℕ, Option, Some, None}
use Rattle.model.specs.Sheet as Model
use Rattle.model.specs.Sheet.{HasSkeleton}
use Rattle.tables.specs.Layout.{block}
use Rattle.tables.specs.Tables.{sheet_in}
use Rattle.tables.specs.Drawn.{drawing}
use Rattle.tables.specs.declared.drawing.Drawing.{Drawing}

-- the skeleton k, or that there is none
abbrev pub SkeletonAs : List ℕ → ℕ → Option Drawing → Type 0
SkeletonAs t k (Some d) = (d.table.now ≡ t) × (d.block ≡ block k) × HasSkeleton k (sheet_in t) (drawing t (block k))
SkeletonAs t k None = (D : Model.Drawing) → ¬ HasSkeleton k (sheet_in t) D
