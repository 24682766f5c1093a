use Rattle.std.proofs.Common.{◌+◌, ◌*◌}
use Rattle.tables.specs.Layout.{messages}
use Rattle.matching.specs.Pass.{demands, one_wish, strand_wishes}
use Rattle.matching.proofs.Outcomes.{ToDemand}
use Rattle.matching.proofs.ask_strand.Given as goal

abbrev pub invariant-loop-position : goal.invariant-loop-position
invariant-loop-position l =
    let t = l.sides.table.now in
    let wish = one_wish t (l.sides.source + messages + 16 * l.s.0) (l.sides.target + messages + 16 * l.u.0) in
    ToDemand wish l.position-end l.position l.images
    (demands (strand_wishes t l.sides.source l.sides.target l.s.0 l.u.0) l.initial.images)
