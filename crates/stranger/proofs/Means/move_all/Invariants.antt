-- The rules of the terms below i are followed.
use Rattle.stranger.specs.Moves.{moves_at}
use Rattle.stranger.specs.Steps.{Between, Step}
use Rattle.stranger.proofs.Means.move_all.Given as goal

abbrev pub invariant-loop-i : goal.invariant-loop-i
invariant-loop-i l = Step (Between (moves_at l.self.table.now l.self.inverses.now.of) 0 l.i) l.initial.set.words l.set.words
