-- `order::number` meets its contract. Assumes nothing.
use borrow.Author.Rules.{rules}
use Rattle.model.specs.Says.{node_of}
use Rattle.order.proofs.number.Goals as goal

pub returns : goal.returns
unfolding node_of
returns c = search rules
