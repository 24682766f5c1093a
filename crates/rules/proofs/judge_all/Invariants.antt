use Prim.Native.Nat.{◌≤◌}
use Rattle.terms.specs.Set.{mem}
use Rattle.rules.specs.Judged.{FineBelow}
use Rattle.rules.proofs.judge_all.Given as goal

abbrev pub invariant-loop-i : goal.invariant-loop-i
invariant-loop-i g l = (l.i ≤ l.n) × FineBelow l.n (mem l.atoms) (λ t r. goal.F-post g l.judge t r) l.i
