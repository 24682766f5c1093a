use Prim.Native.Nat.{◌≤◌}
use Rattle.tables.specs.Tables.{skeleton_at}
use Rattle.origin.specs.Passing.{Gathered}
use Rattle.origin.proofs.with_strand.Given as goal

abbrev pub invariant-loop-position : goal.invariant-loop-position
invariant-loop-position l =
    (l.position ≤ l.position-end) × Gathered (skeleton_at l.skeleton.table.now l.skeleton.block) l.strand.0 l.position l.all
