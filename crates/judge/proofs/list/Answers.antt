-- `judge::list` meets its contract. Assumes nothing.
use Rattle.model.specs.Answers.{AskList}
use Rattle.model.specs.Says.{list_says}
use Rattle.theory.proofs.Sizes.{list_low}
use Rattle.mapping.proofs.Reading.{verdict_within}
use Rattle.judge.proofs.Answered.{refuses, answers}
use Rattle.judge.proofs.list.Goals as goal

pub list-requires : goal.list-requires
list-requires c = verdict_within c.in_ok-sheet.ensures.verdict

pub returns-in_err-sheet : goal.returns-in_err-sheet
unfolding AskList list_says
returns-in_err-sheet c = refuses (λ n. n) _ _ c.in_err-sheet.ensures c.from_residual.result c.from_residual.ensures.1

pub returns : goal.returns
unfolding list_says
returns c =
    answers (λ n. n) _ (λ a l g. list_low _ _ _ g) (λ n l. l)
    c.in_ok-sheet.ensures c.list.result c.list.ensures.0
