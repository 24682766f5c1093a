-- The terms from i on are taken apart.
use Rattle.tables.specs.Layout.{term_count}
use Rattle.tables.specs.Tables.{byte}
use Rattle.stranger.specs.Moves.{opens_at}
use Rattle.stranger.specs.Steps.{Between, Step}
use Rattle.stranger.proofs.Means.open_all.Given as goal

abbrev pub invariant-loop-i : goal.invariant-loop-i
invariant-loop-i l = Step (Between (opens_at l.self.table.now l.self.inverses.now.of) l.i (byte l.self.table.now term_count)) l.initial.set.words l.set.words
