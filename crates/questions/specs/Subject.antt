-- Whether a sheet has what a question is about, and which lent numbers are terms, as the code answers it.
use Rattle.std.specs.Prelude.{◌≡◌, Bool, true, false, ℕ, ◌<◌, Option, Some, None}
use mathlib.Core.List.{List, Memᴰ}
use Rattle.model.specs.Skeleton.{Node}
use Rattle.model.specs.Sheet as Model
use Rattle.model.specs.Answers.{HasReception}
use Rattle.tables.specs.Layout.{block}
use Rattle.tables.specs.Tables.{sheet_in}
use Rattle.tables.specs.Drawn.{drawing}
use Rattle.tables.specs.declared.drawing.Drawing.{Drawing}

-- x is what the question is about, or nothing is
pub data Has {X : Type 0} (Subject : X → Type 0) (x : X) : Bool → Type 0 where
  there : Subject x → Has Subject x true
  none : ((y : X) → ¬ Subject y) → Has Subject x false

-- every number of the list is below n
pub record AllBelow (n : ℕ) (l : List ℕ) : Type 0 where
  pub all : (i : ℕ) → Memᴰ i l → i < n

-- the skeleton k, which has a reception at the node, or that there is none
abbrev pub HeardAs : List ℕ → ℕ → Node → Option Drawing → Type 0
HeardAs t k n (Some d) = (d.table.now ≡ t) × (d.block ≡ block k) × HasReception k n (sheet_in t) (drawing t (block k))
HeardAs t k n None = (D : Model.Drawing) → ¬ HasReception k n (sheet_in t) D
