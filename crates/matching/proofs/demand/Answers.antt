-- `matching::demand` meets its contract. Assumes nothing.
use Rattle.std.proofs.Common.{rules}
use Rattle.matching.proofs.Outcomes.{demand_noted, demand_held}
use Rattle.matching.proofs.demand.Goals as goal

pub returns-then-old : goal.returns-then-old
returns-then-old c = rw c.from-i.ensures (demand_noted _ _ _ (search rules) (rw c.from-i.ensures at c.if-old.true))

pub returns : goal.returns
returns c = rw c.from-i.ensures (demand_held _ _ _ (search rules) (rw c.from-i.ensures at c.if-old.false))
