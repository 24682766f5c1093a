-- `exports::judge_reach` meets its contract. Assumes nothing.
use Rattle.std.proofs.Common.{rules}
use Rattle.model.specs.Says.{node_of, reach_says}
use Rattle.exports.specs.Words.{count_word}
use Rattle.exports.proofs.Worded.{worded}
use Rattle.exports.proofs.judge_reach.Goals as goal

pub returns : goal.returns
unfolding node_of reach_says count_word
returns c =
    record {
      answer = _;
      gives = c.reach.ensures.0;
      is = worded (λ n. n) count_word _ c.reach.result c.map_or_else.ensures (λ n p. search rules) (λ r p. search rules);
    }
