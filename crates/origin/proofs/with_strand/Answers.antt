-- `origin::with_strand` meets its contract: the loop's set has the messages before its position. Assumes nothing.
use borrow.Author.Rules.{rules}
use Rattle.model.specs.Says.{node_of}
use Rattle.origin.proofs.Gathering.{gathered_more, gathered_strand}
use Rattle.origin.proofs.with_strand.Goals as goal

pub loop-position-preserved : goal.loop-position-preserved
unfolding node_of
loop-position-preserved c =
    let so_far = c.loop-position.invariant.1 in
    (search rules, gathered_more c.args.skeleton.drawn.block so_far (search rules) c.message.ensures c.insert.ensures.at)

pub returns : goal.returns
returns c = gathered_strand c.args.skeleton.drawn.block c.loop-position.invariant.1 (search rules)
