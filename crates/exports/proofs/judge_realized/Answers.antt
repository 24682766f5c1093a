-- `exports::judge_realized` meets its contract. Assumes nothing.
use Rattle.std.specs.Prelude.{None, Some}
use Rattle.std.proofs.Common.{rules}
use Rattle.model.specs.Says.{openness_of, realized_says}
use Rattle.exports.specs.Words.{realized_word}
use Rattle.exports.proofs.Worded.{worded}
use Rattle.exports.proofs.judge_realized.Goals as goal

pub returns : goal.returns
unfolding realized_says realized_word
returns c =
    record {
      answer = _;
      gives = c.realized.ensures.0;
      is = worded openness_of realized_word _ c.realized.result c.map_or_else.ensures
          (elim [ None ↦ λ p. search rules | Some n ↦ λ p. search rules ])
          (λ r p. search rules);
    }
