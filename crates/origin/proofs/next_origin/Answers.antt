-- `origin::next_origin` meets its contract: the loop has passed no origin. Assumes nothing.
use borrow.Author.Rules.{rules}
use Rattle.origin.proofs.Originating.{missing_more, not_sent, next_here, next_nowhere}
use Rattle.origin.proofs.next_origin.Goals as goal

pub returns-in-Sent : goal.returns-in-Sent
returns-in-Sent c =
    next_here (search rules) c.loop-s.invariant.1 (rw c.in-Sent.is at c.first_marked.ensures)

pub loop-s-preserved : goal.loop-s-preserved
loop-s-preserved c =
    let none = not_sent c.first_marked.result c.in_default.not-Sent c.first_marked.ensures in
    (search rules, missing_more c.loop-s.invariant.1 none)

pub returns : goal.returns
returns c = next_nowhere _ _ c.loop-s.invariant.1 (search rules)
