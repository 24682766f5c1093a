-- `maps::strand_kept` meets its contract. Assumes nothing.
use Rattle.std.proofs.Common.{sym, ◌∙◌, arith, below_more}
use Rattle.matching.proofs.Nodes.{there, sends}
use Rattle.maps.proofs.Answers.{refused, differ, agree}
use Rattle.maps.proofs.strand_kept.Goals as goal

pub is_send-here-requires : goal.is_send-here-requires
is_send-here-requires c =
    let (t, b) = c.from-from.ensures in
    let high = rw (t, b) at c.height-height.ensures.0 in
    there t b c.args.s _ c.requires.0 (omega arith)

pub is_send-there-requires : goal.is_send-there-requires
is_send-there-requires c =
    let (t, b) = c.to-to.ensures in
    let high = rw (t, b) at c.height.ensures.0 in
    there t b c.args.u _ c.requires.1 (omega arith)

pub returns-then-here-there : goal.returns-then-here-there
returns-then-here-there c =
    let (t, b) = c.from-from.ensures in
    let high = rw (t, b) at c.height-height.ensures.0 in
    let here = sends t b c.args.s c.loop-position.position c.is_send-here.ensures in
    let (t', b') = c.to-to.ensures in
    let there = sends t' b' c.args.u c.loop-position.position c.is_send-there.ensures in
    refused (λ k. differ _ _ c.if-here-there.true (here ∙ (k.same.at c.loop-position.position (omega arith) ∙ sym there)))

pub loop-position-preserved : goal.loop-position-preserved
loop-position-preserved c =
    let (t, b) = c.from-from.ensures in
    let here = sends t b c.args.s c.loop-position.position c.is_send-here.ensures in
    let (t', b') = c.to-to.ensures in
    let there = sends t' b' c.args.u c.loop-position.position c.is_send-there.ensures in
    below_more _ _ c.loop-position.invariant (sym here ∙ (agree _ _ c.if-here-there.false ∙ there))
