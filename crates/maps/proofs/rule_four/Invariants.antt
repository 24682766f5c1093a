use Rattle.std.proofs.Common.{ℕ, ◌<◌}
use Rattle.maps.proofs.Keeping.{PairKept}
use Rattle.maps.proofs.rule_four.Given as goal

abbrev pub invariant-loop-i : goal.invariant-loop-i
invariant-loop-i l = (k : ℕ) → k < l.i → PairKept l.sides.table.now l.sides.source l.sides.target l.map k
