use Prim.Native.Nat.{◌≤◌}
use Rattle.order.proofs.Closing.{Reached}
use Rattle.order.proofs.Precedence.close.Given as goal

abbrev pub invariant-loop-k : goal.invariant-loop-k
invariant-loop-k l = (l.k ≤ l.n) × Reached l.initial.self.words l.n l.k l.self.words
