-- `terms::has_bit` meets its contract: it computes what `member` says.
use mathlib.Core.Path.{refl}
use Rattle.terms.specs.Set.{member, bit}
use Rattle.terms.proofs.has_bit.Goals as goal

pub returns : goal.returns
unfolding member bit
returns c = refl
