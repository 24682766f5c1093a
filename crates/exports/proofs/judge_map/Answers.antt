-- `exports::judge_map` meets its contract. Assumes nothing.
use Rattle.std.specs.Prelude.{None, Some}
use Rattle.std.proofs.Common.{rules}
use Rattle.model.specs.Says.{mapping_of, map_says}
use Rattle.exports.specs.Words.{map_word}
use Rattle.exports.proofs.Worded.{worded}
use Rattle.exports.proofs.judge_map.Goals as goal

pub returns : goal.returns
unfolding map_says map_word
returns c =
    record {
      answer = _;
      gives = c.map.ensures.0;
      is = worded mapping_of map_word _ c.map.result c.map_or_else.ensures
          (elim [ None ↦ λ p. search rules | Some k ↦ λ p. search rules ])
          (λ r p. search rules);
    }
