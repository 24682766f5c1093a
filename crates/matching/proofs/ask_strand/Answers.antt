-- `matching::ask_strand` meets its contract: what is left to demand ends as all of it does. Assumes nothing.
use Rattle.std.proofs.Common.{rules, arith}
use Rattle.tables.proofs.Look.{count_is}
use Rattle.matching.proofs.Nodes.{said_low, there, says}
use Rattle.matching.proofs.Outcomes.{demand_alone, gather_stopped, gather_went, gather_done}
use Rattle.matching.proofs.ask_strand.Goals as goal

pub message-q-requires : goal.message-q-requires
message-q-requires c =
    let (t, b) = c.from-from.ensures in
    let high = rw (t, b) at c.height-position-end.ensures.0 in
    there t b c.args.s _ c.requires.source (omega arith)

pub message-t-requires : goal.message-t-requires
message-t-requires c =
    let (t, b) = c.from-from.ensures in
    let high = rw (t, b) at c.height-position-end.ensures.0 in
    let (t', b') = c.to-to.ensures in
    search (there t' b' c.args.u c.loop-position.position c.requires.target (omega (arith, c.requires.high)))

pub demand-requires : goal.demand-requires
demand-requires c =
    let (t, b) = c.from-from.ensures in
    let high = rw (t, b) at c.height-position-end.ensures.0 in
    let s = c.args.sides in
    let is = says t b c.args.s c.loop-position.position c.message-q.ensures in
    omega (arith, is, said_low s.table.now s.source s.drawn.0.on_table c.args.s.0 c.loop-position.position c.requires.source (omega arith), count_is s.table.now, s.drawn.0.filled.terms)

pub returns-then-not-demand : goal.returns-then-not-demand
returns-then-not-demand c =
    let (t, b) = c.from-from.ensures in
    let (t', b') = c.to-to.ensures in
    let step = rw (says t b c.args.s c.loop-position.position c.message-q.ensures, says t' b' c.args.u c.loop-position.position c.message-t.ensures) at c.demand.ensures in
    gather_stopped c.loop-position.invariant (search rules) (demand_alone _ _ step) c.if-not-demand.true

pub loop-position-preserved : goal.loop-position-preserved
loop-position-preserved c =
    let (t, b) = c.from-from.ensures in
    let (t', b') = c.to-to.ensures in
    let step = rw (says t b c.args.s c.loop-position.position c.message-q.ensures, says t' b' c.args.u c.loop-position.position c.message-t.ensures) at c.demand.ensures in
    gather_went c.loop-position.invariant (search rules) (demand_alone _ _ step) c.if-not-demand.false

pub returns : goal.returns
returns c = gather_done c.loop-position.invariant (search rules)
