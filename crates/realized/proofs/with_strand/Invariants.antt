use Prim.Native.Nat.{◌≤◌}
use Rattle.model.specs.Says.{node_of}
use Rattle.tables.specs.Tables.{skeleton_at}
use Rattle.realized.specs.Passing.{Gathered}
use Rattle.realized.proofs.with_strand.Given as goal

abbrev pub invariant-loop-position : goal.invariant-loop-position
invariant-loop-position l =
    (l.position ≤ l.position-end) × Gathered (skeleton_at l.skeleton.table.now l.skeleton.block) (node_of l.node) l.strand.0 l.position l.all
