-- `matching::ask_all` meets its contract: what is left to demand ends as all of it does. Assumes nothing.
use Rattle.std.proofs.Common.{rules}
use Rattle.matching.specs.Pass.{wishes}
use Rattle.matching.proofs.Outcomes.{gather_begun, gather_stopped, gather_went, gather_done}
use Rattle.matching.proofs.ask_all.Goals as goal

pub loop-s-init : goal.loop-s-init
unfolding wishes
loop-s-init c = gather_begun (search rules)

pub returns-then-not-ask_strand : goal.returns-then-not-ask_strand
returns-then-not-ask_strand c = gather_stopped c.loop-s.invariant (search rules) c.ask_strand.ensures c.if-not-ask_strand.true

pub loop-s-preserved : goal.loop-s-preserved
loop-s-preserved c = gather_went c.loop-s.invariant (search rules) c.ask_strand.ensures c.if-not-ask_strand.false

pub returns : goal.returns
returns c = gather_done c.loop-s.invariant (search rules)
