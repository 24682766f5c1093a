-- `model::RefusalFromReason::from` meets its contract. Assumes nothing.
use Rattle.std.specs.Prelude.{refl}
use Rattle.model.specs.Says.{refusal_of}
use Rattle.model.proofs.RefusalFromReason.from.Goals as goal

pub returns : goal.returns
unfolding refusal_of
returns c = refl
