-- `origin::first_marked` meets its contract: no message before the loop's position is marked. Assumes nothing.
use borrow.Author.Rules.{rules}
use mathlib.Core.Path.{sym, ◌∙◌}
use Rattle.model.specs.Says.{node_of}
use Rattle.origin.proofs.Appearing.{unmarked_more, first_sent, first_received, never_marked}
use Rattle.origin.proofs.first_marked.Goals as goal

pub returns-then-is_send : goal.returns-then-is_send
unfolding node_of
returns-then-is_send c =
    let sent = sym c.is_send.ensures ∙ c.if-is_send.true in
    first_sent c.loop-position.invariant.1 (search rules) (rw c.message.ensures at (sym c.has.ensures ∙ c.if-has.true)) sent

pub returns-then-has : goal.returns-then-has
unfolding node_of
returns-then-has c =
    let received = sym c.is_send.ensures ∙ c.if-is_send.false in
    first_received c.loop-position.invariant.1 (search rules) (rw c.message.ensures at (sym c.has.ensures ∙ c.if-has.true))
    received

pub loop-position-preserved : goal.loop-position-preserved
unfolding node_of
loop-position-preserved c =
    let off = rw c.message.ensures at (sym c.has.ensures ∙ c.if-has.false) in
    (search rules, unmarked_more c.loop-position.invariant.1 off)

pub returns : goal.returns
returns c = never_marked c.loop-position.invariant.1 (search rules)
