use Prim.Native.Nat.{◌≤◌}
use Rattle.terms.specs.Set.{mem}
use Rattle.origin.proofs.Appearing.{Unmarked}
use Rattle.origin.proofs.first_marked.Given as goal

abbrev pub invariant-loop-position : goal.invariant-loop-position
invariant-loop-position l =
    (l.position ≤ l.height) × Unmarked l.skeleton.table.now l.skeleton.block (mem l.marks) l.strand.0 l.position
