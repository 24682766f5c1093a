use lib.ListN.{take}
use Rattle.terms.specs.Set.{IsSetOf}
use Rattle.carry.proofs.set_of.Given as goal

abbrev pub invariant-loop-number : goal.invariant-loop-number
invariant-loop-number l = IsSetOf (take l.number-index l.numbers) l.set
