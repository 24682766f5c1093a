-- `questions::reach` meets its contract. Assumes nothing.
use Rattle.model.specs.Answers.{AskReach}
use Rattle.model.specs.Says.{node_of, reach_says}
use Rattle.accept.proofs.Known.{stored_of}
use Rattle.questions.proofs.Subjects.{is_ready, reception_low}
use Rattle.questions.proofs.Answering.{none_such, reach_said}
use Rattle.questions.proofs.reach.Goals as goal

pub returns-in_default : goal.returns-in_default
unfolding AskReach reach_says
returns-in_default c = none_such _ c.in_default.ensures c.no_such.ensures

pub count_reached-requires : goal.count_reached-requires
count_reached-requires c =
    let a = c.args in
    let skeleton = c.in-Some.skeleton in
    let (e, b, h) = c.in-Some.ensures in (
      is_ready a.sheet.table.now a.skeleton skeleton e b (stored_of a.sheet.stored) h.drawing c.precedence.ensures,
      reception_low a.sheet.table.now a.skeleton skeleton e b (node_of a.node) h,
    )

pub returns : goal.returns
returns c =
    let (e, b, h) = c.in-Some.ensures in
    reach_said h (rw (e, b) at (c.count_reached.ensures c.args.skeleton))
