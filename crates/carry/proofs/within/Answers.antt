-- `carry::within` meets its contract: carried only within is not being loose. Assumes nothing.
use Rattle.carry.proofs.Lent.{within_in}
use Rattle.carry.proofs.within.Goals as goal

pub returns : goal.returns
returns c =
    let members = c.set_of-members.ensures in
    within_in c.requires.0 c.requires.1 c.requires.2 members c.loose.ensures c.has.ensures
