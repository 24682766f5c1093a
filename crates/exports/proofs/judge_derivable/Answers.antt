-- `exports::judge_derivable` meets its contract. Assumes nothing.
use Rattle.model.specs.Says.{node_of}
use Rattle.exports.proofs.judge_derivable.Goals as goal

pub returns : goal.returns
unfolding node_of
returns c = record { answer = _; gives = c.derivable.ensures.0; is = c.yes_no_word_of.ensures }
