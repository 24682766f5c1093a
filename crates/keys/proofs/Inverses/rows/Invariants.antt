use Rattle.tables.specs.Tables.{rows_in}
use Rattle.keys.specs.Partners.{Partners}
use Rattle.keys.proofs.Inverses.rows.Given as goal

abbrev pub invariant-loop-j : goal.invariant-loop-j
invariant-loop-j l = Partners (rows_in l.table) l.j l.self.of
