-- `exports::refusal_word_of` meets its contract. Assumes nothing.
use Rattle.std.proofs.Common.{rules}
use Rattle.model.specs.Says.{refusal_of}
use Rattle.exports.proofs.refusal_word_of.Goals as goal

pub returns : goal.returns
unfolding refusal_of
returns c = search rules
