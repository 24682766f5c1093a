-- `carry::variables` meets its contract: a term passes by the kind of its row. Assumes nothing.
use borrow.Author.Rules.{rules}
use Rattle.carry.specs.Next.{is_variable}
use Rattle.carry.proofs.Shown.{shows_those}
use Rattle.carry.proofs.Rows.{shows_all}
use Rattle.carry.proofs.Sorts.{variable_in}
use Rattle.carry.proofs.variables.Goals as goal

pub returns : goal.returns
unfolding is_variable
returns c =
    let p = c.requires in
    let those = shows_those
    (λ k l b a. let e = p.0.encoded k (search rules) in variable_in p.0 p.1 (search rules) (search rules))
    c.such_that.ensures in
    record { shows = shows_all p.0 c.terms_in.ensures those }
