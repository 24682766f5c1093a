-- `rules::Source::event_arrives` meets its contract: only a reception of a marked message is asked for. Assumes nothing.
use mathlib.Core.Path.{sym, ◌∙◌}
use Rattle.model.specs.Says.{node_of}
use Rattle.origin.proofs.Nodes.{is_received, not_received}
use Rattle.rules.proofs.Arriving.{no_reception, unmarked, received}
use Rattle.rules.proofs.Source.event_arrives.Goals as goal

pub returns-in_default : goal.returns-in_default
unfolding node_of
returns-in_default c = no_reception (not_received c.event_at.result (λ t e. cc) c.event_at.ensures)

pub returns-in_default-2 : goal.returns-in_default-2
unfolding node_of
returns-in_default-2 c = no_reception (not_received c.event_at.result (λ t e. cc) c.event_at.ensures)

pub returns-then-not-has : goal.returns-then-not-has
unfolding node_of
returns-then-not-has c =
    let said = rw (c.in-Some-Reception.is, c.in-Some-Reception.field-0-is) at c.event_at.ensures in
    unmarked (is_received said) (sym c.has.ensures ∙ c.if-not-has.true)

pub returns : goal.returns
unfolding node_of
returns c =
    let said = rw (c.in-Some-Reception.is, c.in-Some-Reception.field-0-is) at c.event_at.ensures in
    received c.is_before.result (is_received said) (sym c.has.ensures ∙ c.if-not-has.false) c.is_before.ensures
