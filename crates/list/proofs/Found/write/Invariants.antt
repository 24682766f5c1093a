use lib.ListN.{length}
use Rattle.list.specs.Found.{marked}
use Rattle.list.proofs.EndToEnd.{Wrote}
use Rattle.list.proofs.Found.write.Given as goal

abbrev pub invariant-loop-i : goal.invariant-loop-i
invariant-loop-i l = Wrote l.candidates.n l.candidates.base (marked l.fn.self) l.initial.space l.total l.space (length l.yielded)
