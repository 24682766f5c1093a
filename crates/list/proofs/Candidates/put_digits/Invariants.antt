use Rattle.list.proofs.Written.{Left}
use Rattle.list.proofs.Candidates.put_digits.Given as goal

abbrev pub invariant-loop-i : goal.invariant-loop-i
invariant-loop-i l = Left l.initial.out l.fn.self.n l.fn.self.base l.c l.out l.weight l.rest l.i
