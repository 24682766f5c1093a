-- `order::Precedence::orders` meets its contract. Assumes nothing.
use borrow.Author.Rules.{rules}
use Rattle.order.proofs.Adding.{order_more}
use Rattle.order.proofs.Precedence.orders.Goals as goal

pub loop-i-preserved : goal.loop-i-preserved
loop-i-preserved c =
    let first = rw c.pair_at.ensures.send at c.number-first.ensures in
    let second = rw c.pair_at.ensures.reception at c.number-second.ensures in (
      search rules,
      order_more c.loop-i.invariant.1 (rw (first.0, second.0) at c.put.ensures) (rw second.0 at second.1),
    )
