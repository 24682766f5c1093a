use Prim.Native.Nat.{◌≤◌}
use Rattle.terms.specs.Set.{mem}
use Rattle.tables.specs.Tables.{skeleton_at}
use Rattle.origin.proofs.Originating.{Missing}
use Rattle.origin.proofs.next_origin.Given as goal

abbrev pub invariant-loop-s : goal.invariant-loop-s
invariant-loop-s l =
    (l.initial.s ≤ l.s) × Missing (skeleton_at l.skeleton.table.now l.skeleton.block) (mem l.marks) l.initial.s l.s
