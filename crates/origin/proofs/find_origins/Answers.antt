-- `origin::find_origins` meets its contract: a second origin, if any, is on a later strand than the first. Assumes nothing.
use borrow.Author.Rules.{rules}
use Rattle.origin.proofs.Originating.{origin_low, none_at_all, one_alone, two_apart}
use Rattle.origin.proofs.find_origins.Goals as goal

pub returns-in_default : goal.returns-in_default
returns-in_default c = none_at_all (rw c.in_default.is at c.next_origin.ensures)

pub overflow_add-node : goal.overflow_add-node
overflow_add-node c =
    let low = origin_low c.args.skeleton.drawn.block (rw c.in-Some.is at c.next_origin.ensures) in search rules

pub returns-in-None : goal.returns-in-None
returns-in-None c =
    one_alone (rw c.in-Some.is at c.next_origin.ensures) (rw c.in-None.is at c.next_origin-2.ensures)

pub returns-in-Some-next_origin : goal.returns-in-Some-next_origin
returns-in-Some-next_origin c =
    two_apart (rw c.in-Some.is at c.next_origin.ensures) (rw c.in-Some-next_origin.is at c.next_origin-2.ensures)
