use Prim.Native.Nat.{◌≤◌}
use Rattle.tables.specs.Tables.{byte, rows_in}
use Rattle.carry.specs.Sets.{Shows}
use Rattle.carry.proofs.Paths.{FreeAt}
use Rattle.carry.proofs.loose.Given as goal

abbrev pub invariant-loop-i : goal.invariant-loop-i
invariant-loop-i l = (l.i ≤ byte l.table 600) × Shows l.i (FreeAt (rows_in l.table) l.fn.set l.t.0) l.loose
