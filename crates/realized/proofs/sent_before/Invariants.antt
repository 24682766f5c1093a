use Prim.Native.Nat.{◌≤◌}
use Rattle.model.specs.Says.{node_of}
use Rattle.tables.specs.Tables.{skeleton_at}
use Rattle.realized.specs.Passing.{Gathered}
use Rattle.realized.proofs.sent_before.Given as goal

abbrev pub invariant-loop-s : goal.invariant-loop-s
invariant-loop-s l = (l.s ≤ l.s-end) × Gathered (skeleton_at l.skeleton.table.now l.skeleton.block) (node_of l.node) l.s 0 l.all
