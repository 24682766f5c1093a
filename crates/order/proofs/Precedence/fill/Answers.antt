-- `order::Precedence::fill` meets its contract. Assumes nothing.
use borrow.Author.Rules.{rules}
use Rattle.order.proofs.Rows.{rows_cleared}
use Rattle.order.proofs.Drawn.{rows_stepped, before_shown}
use Rattle.order.proofs.Precedence.fill.Goals as goal

pub close-requires : goal.close-requires
close-requires c =
    let count = c.row_count.ensures in
    let none = rows_cleared _ (c.fill.ensures.after (λ y e. search rules)) (search rules) in
    (count.1, rw count.0 (rows_stepped _ _ c.requires.1 c.requires.3 none c.strands.ensures c.orders.ensures))

pub returns : goal.returns
returns c =
    let none = rows_cleared _ (c.fill.ensures.after (λ y e. search rules)) (search rules) in
    before_shown _ _ c.requires.1 c.requires.3 none c.strands.ensures c.orders.ensures c.close.ensures
