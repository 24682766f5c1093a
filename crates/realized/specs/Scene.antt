-- What is known of a scene.
use Rattle.model.specs.Sheet.{Drawing}
use Rattle.tables.specs.Drawn.{drawing}
use Rattle.realized.specs.declared.Scene.{Scene}
use Rattle.realized.specs.Ready.{Ready}

-- its skeleton, with the sheet's terms
abbrev pub scene : Scene → Drawing
scene s = drawing s.skeleton.table.now s.skeleton.block

-- the inverses and the matrix are those of its sheet and its skeleton
abbrev pub IsReady : Scene → Type 0
IsReady s = Ready s.skeleton.table.now s.skeleton.block s.inverses.now.of s.before.now.words
