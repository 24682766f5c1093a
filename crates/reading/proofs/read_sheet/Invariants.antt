use Prim.Native.Nat.{◌-◌}
use lib.ListN.{length}
use Rattle.records.specs.Marks.{last_of}
use Rattle.reading.specs.States.{state_in, Underway}
use Rattle.reading.proofs.Reached.{Reached}
use Rattle.reading.proofs.read_sheet.Given as goal

abbrev pub invariant-loop-last : goal.invariant-loop-last
invariant-loop-last l = Reached l.bytes (state_in (last_of l.last) l.table) l.at × Underway (last_of l.last) l.table

abbrev pub decreases-loop-last : goal.decreases-loop-last
decreases-loop-last l = length l.bytes - l.at
