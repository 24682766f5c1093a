use Prim.Native.Nat.{◌≤◌, ◌*◌, ◌+◌}
use Rattle.tables.specs.Layout.{strand_count}
use Rattle.tables.specs.Tables.{byte}
use Rattle.order.specs.Matrix.{Adds}
use Rattle.order.proofs.Adding.{Below}
use Rattle.order.proofs.Precedence.strands.Given as goal

abbrev pub invariant-loop-a : goal.invariant-loop-a
invariant-loop-a l =
    (l.a ≤ 16 * byte l.table (l.block + strand_count)) × Adds (Below l.table l.block l.a) l.initial.self.words l.self.words
