-- `carry::set_of` meets its contract: the loop's set has the numbers that were passed. Assumes nothing.
use borrow.Author.Rules.{rules}
use Rattle.terms.proofs.Listed.{set_none}
use Rattle.carry.proofs.Lent.{lent_next, lent_all}
use Rattle.carry.proofs.set_of.Goals as goal

pub loop-number-init : goal.loop-number-init
loop-number-init c = set_none

pub loop-number-preserved : goal.loop-number-preserved
loop-number-preserved c =
    let l = c.loop-number in
    lent_next c.args.numbers.now l.number-index (search rules) l.invariant c.insert.ensures.at

pub returns : goal.returns
returns c = lent_all (search rules) c.loop-number.invariant
