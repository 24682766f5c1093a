-- `judge::within` meets its contract. Assumes nothing.
use Rattle.model.specs.Answers.{AskWithin}
use Rattle.model.specs.Says.{yes_no_says}
use Rattle.theory.proofs.Sizes.{within_low}
use Rattle.judge.proofs.Answered.{refuses, answers}
use Rattle.judge.proofs.within.Goals as goal

pub returns-in_err-sheet : goal.returns-in_err-sheet
unfolding AskWithin yes_no_says
returns-in_err-sheet c = refuses (λ so. so) _ _ c.in_err-sheet.ensures c.from_residual.result c.from_residual.ensures.1

pub returns : goal.returns
unfolding yes_no_says
returns c =
    answers (λ so. so) _ (λ a l g. within_low _ _ _ g) (λ so l. tt)
    c.in_ok-sheet.ensures c.within.result c.within.ensures
