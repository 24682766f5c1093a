-- `judge::realized` meets its contract. Assumes nothing.
use Rattle.model.specs.Answers.{AskRealized}
use Rattle.model.specs.Says.{openness_of, realized_says}
use Rattle.theory.proofs.Sizes.{realized_low}
use Rattle.judge.proofs.Answered.{refuses, answers, openness_small}
use Rattle.judge.proofs.realized.Goals as goal

pub returns-in_err-sheet : goal.returns-in_err-sheet
unfolding AskRealized realized_says
returns-in_err-sheet c = refuses openness_of _ _ c.in_err-sheet.ensures c.from_residual.result c.from_residual.ensures.1

pub returns : goal.returns
unfolding realized_says
returns c =
    answers openness_of _ (λ a l g. realized_low _ g) openness_small
    c.in_ok-sheet.ensures c.realized.result c.realized.ensures
