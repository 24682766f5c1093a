use Rattle.std.proofs.Common.{◌≤◌, ◌-◌, length}
use Rattle.bench.proofs.read_full.Given as goal

abbrev pub invariant-loop-length : goal.invariant-loop-length
invariant-loop-length g l = l.length ≤ length l.bytes

abbrev pub decreases-loop-length : goal.decreases-loop-length
decreases-loop-length g l = length l.initial.bytes - l.length
