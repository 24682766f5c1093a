-- `maps::rule_five` meets its contract. Assumes nothing.
use Rattle.std.proofs.Common.{rules}
use Rattle.tables.specs.Tables.{rows_in}
use Rattle.maps.specs.Atoms.{GoesIn}
use Rattle.maps.proofs.Sending.{found_all, goes_on, in_on, judged_five}
use Rattle.maps.proofs.rule_five.Goals as goal

pub returns : goal.returns
returns c =
    let ready = c.args.images.sheet.ready in
    judged_five ready.filled ready.good
    (found_all _ _ _ _ _ (GoesIn (rows_in c.args.images.sheet.table.now) c.args.to) (λ σ a w. in_on w)
    (λ σ a i r m h means q. goes_on ready.good σ a i.0 h means c.args.to (search rules)) c.all.ensures)
