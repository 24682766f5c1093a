-- `questions::has_terms` meets its contract. Assumes nothing.
use Rattle.questions.proofs.Subjects.{terms_had}
use Rattle.questions.proofs.has_terms.Goals as goal

pub returns : goal.returns
returns c =
    let a = c.args in
    let all = rw c.terms_in-count.ensures at c.all_terms.ensures in
    rw c.terms_in-count.ensures (terms_had a.table.now a.t.0 a.inside.0 a.set.now c.all_terms.result all)
