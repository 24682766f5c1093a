-- `judge::map` meets its contract. Assumes nothing.
use Rattle.model.specs.Answers.{AskMap}
use Rattle.model.specs.Says.{mapping_of, map_says}
use Rattle.theory.proofs.Sizes.{map_low}
use Rattle.mapping.proofs.Reading.{atoms_listed}
use Rattle.judge.proofs.Answered.{refuses, answers, mapping_small}
use Rattle.judge.proofs.map.Goals as goal

pub map-requires : goal.map-requires
map-requires c = atoms_listed c.in_ok-sheet.ensures.verdict

pub returns-in_err-sheet : goal.returns-in_err-sheet
unfolding AskMap map_says
returns-in_err-sheet c = refuses mapping_of _ _ c.in_err-sheet.ensures c.from_residual.result c.from_residual.ensures.1

pub returns : goal.returns
unfolding map_says
returns c =
    answers mapping_of _ (λ a l g. map_low _ _ _ _ g) mapping_small
    c.in_ok-sheet.ensures c.map.result c.map.ensures
