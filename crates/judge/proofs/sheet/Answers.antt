-- `judge::sheet` meets its contract. Assumes nothing.
use Rattle.std.specs.Prelude.{Ok}
use Rattle.std.proofs.Common.{rules}
use Rattle.model.specs.Answers.{AskSheet}
use Rattle.model.specs.Says.{counts_of, sheet_says}
use Rattle.theory.proofs.Sizes.{sheet_low}
use Rattle.judge.proofs.Answered.{refuses, answers, sheet_counts, counts_small}
use Rattle.judge.proofs.sheet.Goals as goal

pub returns-in_err-sheet : goal.returns-in_err-sheet
unfolding AskSheet sheet_says
returns-in_err-sheet c = refuses counts_of _ _ c.in_err-sheet.ensures c.from_residual.result c.from_residual.ensures.1

pub returns : goal.returns
unfolding sheet_says
returns c =
    answers counts_of _ (λ a l g. sheet_low g) counts_small
    c.in_ok-sheet.ensures (Ok _) (sheet_counts _ _ _ (search rules) (search rules))
