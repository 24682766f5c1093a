-- `questions::realized` meets its contract. Assumes nothing.
use Rattle.model.specs.Answers.{AskRealized}
use Rattle.model.specs.Says.{realized_says}
use Rattle.accept.proofs.Known.{stored_of}
use Rattle.questions.proofs.Subjects.{is_ready}
use Rattle.questions.proofs.Answering.{none_such, realized_said}
use Rattle.questions.proofs.realized.Goals as goal

pub returns-in_default : goal.returns-in_default
unfolding AskRealized realized_says
returns-in_default c = none_such _ (rw c.in_default.is at c.skeleton.ensures) c.no_such.ensures

pub first_open-requires : goal.first_open-requires
first_open-requires c =
    let (e, b, h) = c.in-Some.ensures in
    is_ready c.args.sheet.table.now c.args.skeleton c.in-Some.skeleton e b (stored_of c.args.sheet.stored) h
    c.precedence.ensures

pub returns : goal.returns
returns c =
    let (e, b, h) = c.in-Some.ensures in
    realized_said h (rw (e, b) at c.first_open.ensures)
