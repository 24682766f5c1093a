-- `terms::TermSet::one` meets its contract: nothing is in EMPTY. Assumes nothing.
use mathlib.Core.Path.{◌≡◌}
use mathlib.Core.Bool.{Bool, false, ◌||◌}
use Rattle.terms.proofs.Words.{member_none}
use Rattle.terms.proofs.TermSet.one.Goals as goal

alone : {r b x : Bool} → r ≡ (b || x) → b ≡ false → r ≡ x
alone e n = rw n at e

pub returns : goal.returns
returns c k = alone (c.with.ensures k) (member_none k)
