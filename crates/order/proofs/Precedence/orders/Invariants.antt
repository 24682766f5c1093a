use Prim.Native.Nat.{◌≤◌, ◌+◌}
use Rattle.tables.specs.Layout.{order_count}
use Rattle.tables.specs.Tables.{byte}
use Rattle.order.specs.Matrix.{Adds}
use Rattle.order.specs.Steps.{Listed}
use Rattle.order.proofs.Precedence.orders.Given as goal

abbrev pub invariant-loop-i : goal.invariant-loop-i
invariant-loop-i l =
    (l.i ≤ byte l.table (l.block + order_count)) × Adds (Listed l.table l.block l.i) l.initial.self.words l.self.words
