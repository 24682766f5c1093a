-- `order::Precedence::close` meets its contract. Assumes nothing.
use borrow.Author.Rules.{rules}
use Rattle.order.proofs.Closing.{reached_none, reached_more, reached_all}
use Rattle.order.proofs.Precedence.close.Goals as goal

pub loop-k-init : goal.loop-k-init
loop-k-init c = (search rules, reached_none _ _ c.used-n.ensures.1)

pub loop-k-preserved : goal.loop-k-preserved
loop-k-preserved c =
    (search rules, reached_more _ _ _ _ _ (search rules) c.loop-k.invariant.1 c.through.ensures)

pub returns : goal.returns
returns c = reached_all _ _ _ c.loop-k-test.false _ c.loop-k.invariant.1
