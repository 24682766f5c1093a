-- `questions::derivable` meets its contract. Assumes nothing.
use native.Mathlib.Omega.{arith}
use Rattle.model.specs.Answers.{AskDerivable}
use Rattle.model.specs.Says.{node_of, yes_no_says}
use Rattle.accept.proofs.Known.{stored_of}
use Rattle.questions.proofs.Subjects.{is_ready, reception_low, term_missing, with_term}
use Rattle.questions.proofs.Answering.{none_such, derivable_said}
use Rattle.questions.proofs.derivable.Goals as goal

pub returns-in_default : goal.returns-in_default
unfolding AskDerivable yes_no_says
returns-in_default c = none_such _ (λ D g. c.in_default.ensures D g.reception) c.no_such.ensures

pub returns-then-terms_in-term : goal.returns-then-terms_in-term
unfolding AskDerivable yes_no_says
returns-then-terms_in-term c =
    none_such _ (term_missing c.args.sheet.table.now (omega (arith, c.terms_in.ensures))) c.no_such-then-terms_in-term.ensures

pub reached_before-requires : goal.reached_before-requires
reached_before-requires c =
    let a = c.args in
    let skeleton = c.in-Some.skeleton in
    let (e, b, h) = c.in-Some.ensures in (
      is_ready a.sheet.table.now a.skeleton skeleton e b (stored_of a.sheet.stored) h.drawing c.precedence.ensures,
      reception_low a.sheet.table.now a.skeleton skeleton e b (node_of a.node) h,
    )

pub returns : goal.returns
returns c =
    let (e, b, h) = c.in-Some.ensures in
    let there = with_term c.args.sheet.table.now h (omega (arith, c.terms_in.ensures)) in
    rw c.has.ensures (derivable_said there (rw (e, b) at c.reached_before.ensures))
