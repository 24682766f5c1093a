use Rattle.std.proofs.Common.{ℕ, ◌<◌, get_or}
use Rattle.maps.specs.Strands.{StrandKept}
use Rattle.maps.proofs.rule_two.Given as goal

abbrev pub invariant-loop-s : goal.invariant-loop-s
invariant-loop-s l =
    (k : ℕ) → k < l.s → StrandKept l.sides.table.now l.sides.source l.sides.target k (get_or l.map k 0)
