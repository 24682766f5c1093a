-- `matching::accepted::Sending::ask_second` meets its contract. Assumes nothing.
use Rattle.std.proofs.Common.{arith}
use Rattle.matching.proofs.Rows.{second_low}
use Rattle.matching.proofs.Sending.{no_second, asks_second}
use Rattle.matching.proofs.accepted.Sending.ask_second.Goals as goal

pub returns-then-not-has_second : goal.returns-then-not-has_second
returns-then-not-has_second c = no_second c.args.self.sheet.ready.filled c.args.self.terms (cc) c.told-images

pub demand-requires : goal.demand-requires
demand-requires c =
    let ready = c.args.self.sheet.ready in
    omega (arith, second_low ready.filled ready.good _ c.args.self.terms.source (cc), ready.filled.terms)

pub returns : goal.returns
returns c =
    let step = rw (c.second_at.ensures, c.second_at-2.ensures) at c.demand.ensures in
    asks_second c.args.self.sheet.ready.filled c.args.self.terms (cc) _ step
