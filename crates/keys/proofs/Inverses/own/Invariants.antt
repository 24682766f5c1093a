use Prim.Native.Nat.{◌≤◌}
use Rattle.keys.specs.Partners.{Own}
use Rattle.keys.proofs.Inverses.own.Given as goal

abbrev pub invariant-loop-i : goal.invariant-loop-i
invariant-loop-i l = (l.i ≤ l.n) × Own l.i l.self.of
