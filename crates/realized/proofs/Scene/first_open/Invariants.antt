use Prim.Native.Nat.{◌≤◌}
use Rattle.model.specs.Sheet.{meant}
use Rattle.realized.specs.Scene.{scene}
use Rattle.realized.proofs.Opening.{Passed}
use Rattle.realized.proofs.Scene.first_open.Given as goal

abbrev pub invariant-loop-s : goal.invariant-loop-s
invariant-loop-s l = (l.s ≤ l.s-end) × Passed (meant (scene l.self)) l.s
