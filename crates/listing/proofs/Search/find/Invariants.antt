use Rattle.listing.specs.Found.{MarkedBelow}
use Rattle.listing.proofs.Search.find.Given as goal

abbrev pub invariant-loop-c : goal.invariant-loop-c
invariant-loop-c l =
    MarkedBelow l.self.prepared.sides.table.now l.self.prepared.sides.source l.self.prepared.sides.target l.c l.found
