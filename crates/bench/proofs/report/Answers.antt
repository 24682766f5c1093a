-- `bench::report` meets its contract. Assumes nothing.
use borrow.Author.Rules.{rules}
use Rattle.bench.proofs.Telling.{refused_then, reported_bad, reported_good}
use Rattle.bench.proofs.report.Goals as goal

pub returns-in_default-clause-text : goal.returns-in_default-clause-text
returns-in_default-clause-text c =
    let (r, e) = refused_then _ c.in_default.not-Ok in
    reported_bad r (search rules) e c.sheet-answer.ensures.0 (rw c.requires.0 at c.sheet_line.ensures.text)

pub returns-clause-text : goal.returns-clause-text
returns-clause-text c =
    let at_start = rw c.requires.0 at c.sheet_line.ensures.text in
    reported_good _ (search rules) c.in-Ok.is c.sheet-answer.ensures.0 at_start c.put_answers.ensures.text
