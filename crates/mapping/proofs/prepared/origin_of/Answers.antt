-- `mapping::prepared::origin_of` meets its contract. Assumes nothing.
use Rattle.mapping.proofs.Starting.{starts_at, starts_nowhere, starts_often}
use Rattle.mapping.proofs.prepared.origin_of.Goals as goal

pub returns-in-At : goal.returns-in-At
returns-in-At c =
    let d = c.args.skeleton.drawn in
    starts_at d.good d.on_table c.carriers.ensures c.in-At.ensures

pub returns-in-Nowhere : goal.returns-in-Nowhere
returns-in-Nowhere c =
    let d = c.args.skeleton.drawn in
    starts_nowhere d.good d.on_table c.carriers.ensures c.in-Nowhere.ensures

pub returns-in-Several : goal.returns-in-Several
returns-in-Several c =
    let d = c.args.skeleton.drawn in
    starts_often d.good d.on_table c.carriers.ensures c.in-Several.ensures
