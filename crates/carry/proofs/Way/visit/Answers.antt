-- `carry::Way::visit` meets its contract: the bytes are those of the row. Assumes nothing.
use mathlib.Core.Path.{sym, ◌∙◌, ap₂}
use mathlib.Core.Bool.{◌||◌}
use Rattle.carry.proofs.Closing.{visit_none, visit_adds}
use Rattle.carry.proofs.Way.visit.Goals as goal

pub returns-then-not-has : goal.returns-then-not-has
returns-then-not-has c =
    visit_none _ _ _ _ _ (sym (ap₂ ◌||◌ c.has.ensures c.has-2.ensures) ∙ c.if-not-has.true)

pub returns : goal.returns
returns c =
    let found = sym (ap₂ ◌||◌ c.has.ensures c.has-2.ensures) ∙ c.if-not-has.false in
    let one = rw (c.first_at.ensures, c.to_first.ensures, c.kind_at-kind.ensures) at c.insert_if.ensures in
    let two = rw (c.second_at.ensures, c.to_second.ensures, c.kind_at-kind.ensures) at c.insert_if-2.ensures in
    visit_adds _ _ (c.requires.0.encoded c.args.t.0 c.requires.1) found c.insert.ensures one two
