-- `realized::with_send` meets its contract: what stands at the sender, and whether it comes before the node. Assumes nothing.
use borrow.Author.Rules.{rules}
use mathlib.Core.Path.{sym, ◌∙◌}
use mathlib.Core.Bool.{true≢false}
use Rattle.realized.proofs.Sending.{is_sent, not_sent, takes_none, takes_sent}
use Rattle.realized.proofs.with_send.Goals as goal

pub returns-in_default : goal.returns-in_default
returns-in_default c = takes_none (λ i s. not_sent _ (λ t e. search rules) c.in_default.ensures i s.at)

pub returns-then-is_before : goal.returns-then-is_before
returns-then-is_before c =
    let told = c.requires.shows.at _ _ c.requires.low.0 c.requires.low.1 in
    let at = is_sent (rw c.in-Some-Send.field-0-is at c.in-Some-Send.ensures) in
    takes_sent (record { at = at; before = told.0 (sym c.is_before.ensures ∙ c.if-is_before.true) }) c.with.ensures

pub returns : goal.returns
returns c =
    let told = c.requires.shows.at _ _ c.requires.low.0 c.requires.low.1 in
    takes_none (λ i s. true≢false (sym (told.1 s.before) ∙ (sym c.is_before.ensures ∙ c.if-is_before.false)))
