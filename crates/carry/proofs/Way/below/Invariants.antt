use Rattle.carry.proofs.Closing.{Gone}
use Rattle.carry.proofs.Way.below.Given as goal

abbrev pub invariant-loop-i : goal.invariant-loop-i
invariant-loop-i l = Gone l.self l.table l.start l.i l.set
