-- `judge::reach` meets its contract. Assumes nothing.
use Rattle.model.specs.Answers.{AskReach}
use Rattle.model.specs.Says.{reach_says}
use Rattle.theory.proofs.Sizes.{reach_low}
use Rattle.judge.proofs.Answered.{refuses, answers}
use Rattle.judge.proofs.reach.Goals as goal

pub returns-in_err-sheet : goal.returns-in_err-sheet
unfolding AskReach reach_says
returns-in_err-sheet c = refuses (λ n. n) _ _ c.in_err-sheet.ensures c.from_residual.result c.from_residual.ensures.1

pub returns : goal.returns
unfolding reach_says
returns c =
    answers (λ n. n) _ (λ a l g. reach_low _ _ g) (λ n l. l)
    c.in_ok-sheet.ensures c.reach.result c.reach.ensures
