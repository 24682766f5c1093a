-- `carry::carriers` meets its contract: no member of the empty set is in the way. Assumes nothing.
use Rattle.carry.proofs.Paths.{carriers_of}
use Rattle.carry.proofs.carriers.Goals as goal

pub returns : goal.returns
returns c = carriers_of c.loose.ensures
