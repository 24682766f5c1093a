use Prim.Native.Nat.{◌≤◌}
use Rattle.accept.specs.Held.{RightBelow}
use Rattle.accept.proofs.judge_skeletons.Given as goal

abbrev pub invariant-loop-k : goal.invariant-loop-k
invariant-loop-k l = (l.k ≤ l.k-end) × RightBelow l.table l.k
