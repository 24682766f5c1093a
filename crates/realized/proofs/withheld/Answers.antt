-- `realized::withheld` meets its contract: the NO atoms, and the UO atoms. Assumes nothing.
use Rattle.realized.proofs.Joining.{both_withheld}
use Rattle.realized.proofs.withheld.Goals as goal

pub returns : goal.returns
returns c = both_withheld c.atoms.ensures c.atoms-2.ensures c.union.ensures
