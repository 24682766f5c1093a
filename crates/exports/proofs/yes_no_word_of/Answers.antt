-- `exports::yes_no_word_of` meets its contract. Assumes nothing.
use Rattle.std.proofs.Common.{rules, true, false}
use Rattle.model.specs.Says.{yes_no_says}
use Rattle.exports.specs.Words.{yes_no_word}
use Rattle.exports.proofs.Worded.{worded}
use Rattle.exports.proofs.yes_no_word_of.Goals as goal

pub returns : goal.returns
unfolding yes_no_says yes_no_word
returns c =
    worded (λ so. so) yes_no_word _ c.args.answer c.map_or_else.ensures
    (elim [ true ↦ λ p. search rules | false ↦ λ p. search rules ])
    (λ r p. search rules)
