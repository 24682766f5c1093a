-- `stranger::start` meets its contract: what he has from the start passes. Assumes nothing.
use borrow.Author.Rules.{rules}
use Rattle.stranger.proofs.Starting.{starts_those}
use Rattle.stranger.proofs.start.Goals as goal

pub returns : goal.returns
returns c =
    rw c.terms_in.ensures at (starts_those c.args.table.now c.args.sent c.args.withheld (λ k l b a. search rules) c.such_that.ensures)
