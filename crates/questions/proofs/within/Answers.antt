-- `questions::within` meets its contract. Assumes nothing.
use Rattle.model.specs.Answers.{AskWithin}
use Rattle.model.specs.Says.{yes_no_says}
use Rattle.accept.proofs.Known.{stored_of}
use Rattle.questions.proofs.Subjects.{good_rows, are_terms}
use Rattle.questions.proofs.Answering.{is_there, not_there, none_such, within_said}
use Rattle.questions.proofs.within.Goals as goal

pub has_terms-requires : goal.has_terms-requires
has_terms-requires c = (stored_of c.args.sheet.stored).filled

pub returns-then-not-has_terms : goal.returns-then-not-has_terms
unfolding AskWithin yes_no_says
returns-then-not-has_terms c =
    none_such _ (not_there c.has_terms.ensures c.if-not-has_terms.true) c.no_such.ensures

pub within-requires : goal.within-requires
within-requires c =
    let a = c.args in
    let stored = stored_of a.sheet.stored in
    let h = is_there c.has_terms.ensures c.if-not-has_terms.false in
    (stored.filled, good_rows a.sheet.table.now stored.sound, are_terms a.sheet.table.now a.t.0 a.inside.0 a.set.now h)

pub returns : goal.returns
returns c = within_said (is_there c.has_terms.ensures c.if-not-has_terms.false) c.within.ensures
