-- `matching::accepted::Accepted::descend` meets its contract: what is left to visit ends as the whole pass does. Assumes nothing.
use Rattle.std.proofs.Common.{rules}
use Rattle.matching.proofs.Outcomes.{pass_stopped, pass_went, pass_done}
use Rattle.matching.proofs.accepted.Accepted.descend.Goals as goal

pub returns-then-not-visit : goal.returns-then-not-visit
returns-then-not-visit c = pass_stopped c.loop-p.invariant (search rules) c.visit.ensures c.if-not-visit.true

pub loop-p-preserved : goal.loop-p-preserved
loop-p-preserved c = pass_went c.loop-p.invariant (search rules) c.visit.ensures c.if-not-visit.false

pub returns : goal.returns
returns c = pass_done c.loop-p.invariant (search rules)
