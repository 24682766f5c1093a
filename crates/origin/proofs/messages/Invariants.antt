use Prim.Native.Nat.{◌≤◌}
use Rattle.tables.specs.Tables.{skeleton_at}
use Rattle.origin.specs.Passing.{Gathered}
use Rattle.origin.proofs.messages.Given as goal

abbrev pub invariant-loop-s : goal.invariant-loop-s
invariant-loop-s l = (l.s ≤ l.s-end) × Gathered (skeleton_at l.skeleton.table.now l.skeleton.block) l.s 0 l.all
