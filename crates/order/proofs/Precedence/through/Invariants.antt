use Prim.Native.Nat.{◌≤◌}
use Rattle.order.proofs.Closing.{Partly}
use Rattle.order.proofs.Precedence.through.Given as goal

abbrev pub invariant-loop-a : goal.invariant-loop-a
invariant-loop-a l = (l.a ≤ l.n) × Partly l.initial.self.words l.k l.a l.self.words
