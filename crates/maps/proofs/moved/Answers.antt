-- `maps::moved` meets its contract. Assumes nothing.
use Rattle.model.specs.Says.{node_of}
use Rattle.maps.proofs.moved.Goals as goal

pub returns : goal.returns
unfolding node_of
returns c = rw c.from.ensures
