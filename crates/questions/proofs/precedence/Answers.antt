-- `questions::precedence` meets its contract. Assumes nothing.
use Rattle.accept.proofs.Lies.{or_ordered}
use Rattle.questions.proofs.precedence.Goals as goal

pub fill-requires : goal.fill-requires
fill-requires c =
    let d = c.args.skeleton.drawn in
    (d.filled, d.block, d.inside, or_ordered _ _ d.block d.on_table)
