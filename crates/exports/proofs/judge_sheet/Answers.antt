-- `exports::judge_sheet` meets its contract. Assumes nothing.
use Rattle.std.proofs.Common.{rules}
use Rattle.model.specs.Says.{counts_of, sheet_says}
use Rattle.exports.specs.Words.{sheet_word}
use Rattle.exports.proofs.Worded.{worded}
use Rattle.exports.proofs.judge_sheet.Goals as goal

pub returns : goal.returns
unfolding sheet_says sheet_word
returns c =
    record {
      answer = _;
      gives = c.sheet.ensures.0;
      is = worded counts_of sheet_word _ c.sheet.result c.map_or_else.ensures (λ counts p. search rules) (λ r p. search rules);
    }
