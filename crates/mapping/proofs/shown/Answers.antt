-- `mapping::shown` meets its contract. Assumes nothing.
use Rattle.mapping.proofs.Writing.{is_shown, not_shown}
use Rattle.mapping.proofs.shown.Goals as goal

pub returns-then-has : goal.returns-then-has
returns-then-has c = is_shown _ _ _ c.has.ensures (cc) (rw c.from.ensures)

pub returns : goal.returns
returns c = not_shown _ _ _ c.has.ensures (cc)
