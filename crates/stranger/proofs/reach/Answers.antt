-- `stranger::reach` meets its contract. Assumes nothing.
use Rattle.stranger.proofs.Reaching.{reaches}
use Rattle.stranger.proofs.reach.Goals as goal

pub returns : goal.returns
returns c =
    reaches c.requires.filled.0 c.requires.filled.1 c.requires.inverted _ _ c.start.ensures c.close.ensures
