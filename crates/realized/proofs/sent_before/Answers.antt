-- `realized::sent_before` meets its contract: the loop's set has what the strands passed send before the node. Assumes nothing.
use borrow.Author.Rules.{rules}
use Rattle.terms.proofs.Words.{member_none}
use Rattle.realized.proofs.Sending.{gathered_none, gathered_all}
use Rattle.realized.proofs.sent_before.Goals as goal

pub loop-s-init : goal.loop-s-init
loop-s-init c = (search rules, gathered_none member_none)

pub returns : goal.returns
returns c =
    gathered_all c.args.skeleton.drawn.block c.loop-s.invariant.1 (search rules)
