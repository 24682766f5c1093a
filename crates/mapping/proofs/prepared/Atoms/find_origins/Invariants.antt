use mathlib.Core.Path.{◌≡◌}
use lib.ListN.{length}
use Rattle.tables.specs.Tables.{rows_in, skeleton_at}
use Rattle.mapping.proofs.Starting.{StartsBelow}
use Rattle.mapping.proofs.prepared.Atoms.find_origins.Given as goal

abbrev pub invariant-loop-a : goal.invariant-loop-a
invariant-loop-a l =
    (l.self.nons ≡ l.initial.self.nons) × (l.self.uniqs ≡ l.initial.self.uniqs) × (length l.self.origins ≡ 200)
    × StartsBelow (rows_in l.skeleton.table.now) (skeleton_at l.skeleton.table.now l.skeleton.block) l.initial.self.uniqs l.a l.self.origins
