use Rattle.tables.specs.Layout.{term_count}
use Rattle.tables.specs.Tables.{byte, rows_in}
use Rattle.matching.specs.Pass.{pass}
use Rattle.matching.proofs.Outcomes.{ToVisit}
use Rattle.matching.proofs.accepted.Accepted.descend.Given as goal

abbrev pub invariant-loop-p : goal.invariant-loop-p
invariant-loop-p l =
    let rows = rows_in l.self.table.now in
    ToVisit rows l.p l.images (pass rows (byte l.self.table.now term_count) l.initial.images)
