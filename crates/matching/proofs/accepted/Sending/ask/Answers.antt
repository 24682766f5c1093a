-- `matching::accepted::Sending::ask` meets its contract. Assumes nothing.
use Rattle.std.proofs.Common.{arith}
use Rattle.matching.proofs.Rows.{first_low}
use Rattle.matching.proofs.Sending.{no_parts, first_clashes, first_asked}
use Rattle.matching.proofs.accepted.Sending.ask.Goals as goal

pub returns-then-not-has_first : goal.returns-then-not-has_first
returns-then-not-has_first c = no_parts c.args.self.sheet.ready.filled c.args.self.terms (cc) c.told-images

pub demand-requires : goal.demand-requires
demand-requires c =
    let ready = c.args.self.sheet.ready in
    omega (arith, first_low ready.filled ready.good _ c.args.self.terms.source (cc), ready.filled.terms)

pub returns-then-demand : goal.returns-then-demand
returns-then-demand c =
    let step = rw c.first_at.ensures at c.demand.ensures in
    first_asked c.args.self.sheet.ready.filled c.args.self.terms (cc) _ c.first.ensures _ step c.if-demand.true c.ask_second.ensures

pub returns-else-demand : goal.returns-else-demand
returns-else-demand c =
    let step = rw c.first_at.ensures at c.demand.ensures in
    rw c.if-demand.false (first_clashes c.args.self.sheet.ready.filled c.args.self.terms (cc) _ c.first.ensures _ step c.if-demand.false)
