use Rattle.std.proofs.Common.{length, get_or}
use Rattle.matching.specs.Pass.{demands, strand_wishes, wishes}
use Rattle.matching.proofs.Outcomes.{ToDemand}
use Rattle.matching.proofs.ask_all.Given as goal

abbrev pub invariant-loop-s : goal.invariant-loop-s
invariant-loop-s l =
    let t = l.sides.table.now in
    let a = l.sides.source in
    let b = l.sides.target in
    ToDemand (λ s. strand_wishes t a b s (get_or l.map s 0)) (length l.map) l.s l.images (demands (wishes t a b l.map) l.initial.images)
