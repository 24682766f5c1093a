-- `origin::messages` meets its contract: the loop's set has the messages of the strands before its own. Assumes nothing.
use borrow.Author.Rules.{rules}
use Rattle.terms.proofs.Words.{member_none}
use Rattle.origin.proofs.Gathering.{gathered_none, gathered_all}
use Rattle.origin.proofs.messages.Goals as goal

pub loop-s-init : goal.loop-s-init
loop-s-init c = (search rules, gathered_none c.args.skeleton.drawn.block member_none)

pub returns : goal.returns
returns c = gathered_all c.args.skeleton.drawn.block c.loop-s.invariant.1 (search rules)
