use Prim.Native.Nat.{◌≤◌}
use Rattle.model.specs.Sheet.{meant}
use Rattle.realized.specs.Scene.{scene}
use Rattle.realized.proofs.Opening.{ClosedBelow}
use Rattle.realized.proofs.Scene.open_on.Given as goal

abbrev pub invariant-loop-position : goal.invariant-loop-position
invariant-loop-position l = (l.position ≤ l.position-end) × ClosedBelow (meant (scene l.self)) l.strand.0 l.position
