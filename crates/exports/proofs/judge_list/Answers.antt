-- `exports::judge_list` meets its contract. Assumes nothing.
use Rattle.std.proofs.Common.{rules}
use Rattle.model.specs.Says.{list_says}
use Rattle.exports.specs.Words.{count_word}
use Rattle.exports.proofs.Worded.{worded}
use Rattle.exports.proofs.judge_list.Goals as goal

pub returns : goal.returns
unfolding list_says count_word
returns c =
    record {
      answer = _;
      gives = c.list.ensures.0;
      is = worded (λ n. n) count_word _ c.list.result c.map_or_else.ensures (λ n p. search rules) (λ r p. search rules);
    }
