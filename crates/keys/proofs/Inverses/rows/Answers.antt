-- `keys::Inverses::rows` meets its contract. The loop's invariant: what the rows below j say is written. Assumes nothing.
use native.Mathlib.Omega.{arith}
use Rattle.tables.proofs.Look.{count_is}
use Rattle.keys.proofs.Pairing.{no_row_yet}
use Rattle.keys.proofs.Inverses.rows.Goals as goal

pub loop-j-init : goal.loop-j-init
loop-j-init c = no_row_yet _ (omega (arith, count_is c.args.table.now, c.requires.0.terms)) (rw c.terms_in.ensures at c.own.ensures)
