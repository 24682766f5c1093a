-- `matching::accepted::Accepted::visit` meets its contract. Assumes nothing.
use Rattle.std.proofs.Common.{arith, sym, ◌∙◌}
use Rattle.tables.proofs.Look.{count_is}
use Rattle.matching.proofs.Outcomes.{visit_nothing, visit_unfit, visit_sent}
use Rattle.matching.proofs.accepted.Accepted.visit.Goals as goal

pub returns-then-terms_in-t : goal.returns-then-terms_in-t
returns-then-terms_in-t c =
    let none = rw c.from.ensures at c.if-terms_in-t.true in
    visit_nothing _ _ _ c.told-images (omega (arith, count_is c.args.self.table.now))

pub returns-then-fits : goal.returns-then-fits
returns-then-fits c =
    let there = rw c.from.ensures at c.if-terms_in-t.false in
    let fits = rw c.from.ensures at (sym c.fits.ensures ∙ c.if-fits.true) in
    visit_sent _ _ _ c.told-images (omega (arith, count_is c.args.self.table.now)) fits (rw c.from.ensures at c.ask.ensures)

pub returns-else-fits : goal.returns-else-fits
returns-else-fits c =
    let there = rw c.from.ensures at c.if-terms_in-t.false in
    let unfit = rw c.from.ensures at (sym c.fits.ensures ∙ c.if-fits.false) in
    rw c.if-fits.false (visit_unfit _ _ _ c.told-images (omega (arith, count_is c.args.self.table.now)) unfit)
