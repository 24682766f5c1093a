-- `accept::judge_block` meets its contract. Assumes nothing.
use Rattle.accept.proofs.Lies.{or_ordered}
use Rattle.accept.proofs.judge_block.Goals as goal

pub fill-requires : goal.fill-requires
fill-requires c =
    let d = c.args.skeleton.drawn in
    (d.filled, d.block, d.inside, or_ordered _ _ d.block d.on_table)

pub judge-requires : goal.judge-requires
judge-requires c =
    let d = c.args.skeleton.drawn in
    (or_ordered _ _ d.block d.on_table, c.fill.ensures)
