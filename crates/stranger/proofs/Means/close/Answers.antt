-- `stranger::Means::close` meets its contract. Assumes nothing.
use Rattle.stranger.proofs.Steps.{grown_none}
use Rattle.stranger.proofs.Least.{grown_more, less_than, closure}
use Rattle.stranger.proofs.Tables.{grown_opened}
use Rattle.stranger.proofs.Means.close.Goals as goal

pub loop-set-init : goal.loop-set-init
loop-set-init c = grown_none _ _

pub returns-then-count-apart : goal.returns-then-count-apart
returns-then-count-apart c =
    closure c.move_all.ensures c.count.ensures c.count-apart.ensures (grown_opened _ _ c.loop-set.invariant c.open_all.ensures)
    c.if-count-apart.true

pub loop-set-smaller : goal.loop-set-smaller
loop-set-smaller c =
    less_than c.move_all.ensures c.count.ensures c.count-apart.ensures _ c.open_all.ensures.grown.grows c.if-count-apart.false

pub loop-set-preserved : goal.loop-set-preserved
loop-set-preserved c = grown_more c.move_all.ensures (grown_opened _ _ c.loop-set.invariant c.open_all.ensures)
