-- The set has all of the start, and only what is reached from it. The measure is how many numbers are not in the set.
use Prim.Native.Nat.{◌-◌}
use Rattle.terms.specs.Set.{size}
use Rattle.stranger.specs.Moves.{Moves}
use Rattle.stranger.specs.Steps.{Grown}
use Rattle.stranger.proofs.Means.close.Given as goal

abbrev pub invariant-loop-set : goal.invariant-loop-set
invariant-loop-set l = Grown (Moves l.self.table.now l.self.inverses.now.of) l.initial.set.words l.set.words

abbrev pub decreases-loop-set : goal.decreases-loop-set
decreases-loop-set l = 256 - size l.set
