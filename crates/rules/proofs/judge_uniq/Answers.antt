-- `rules::judge_uniq` meets its contract: 12 without one origin, 13 where a reception comes too early. Assumes nothing.
use Rattle.rules.proofs.UniqRules.{not_one_strand, low_origin, too_early, on_time}
use Rattle.rules.proofs.judge_uniq.Goals as goal

pub returns-in_default : goal.returns-in_default
returns-in_default c =
    let call = c.find_origins in
    not_one_strand c.args.skeleton.drawn c.carriers-marks.ensures call.result c.in_default.not-At call.ensures

pub invariant_of-source : goal.invariant_of-source
invariant_of-source c =
    record { low = low_origin c.args.skeleton.drawn c.carriers-marks.ensures (rw c.in-At.is at c.find_origins.ensures) }

pub returns-then-not-arrives : goal.returns-then-not-arrives
returns-then-not-arrives c =
    too_early c.args.skeleton.drawn c.carriers-marks.ensures c.requires.0 (rw c.in-At.is at c.find_origins.ensures)
    c.arrives.ensures c.if-not-arrives.true

pub returns : goal.returns
returns c =
    on_time c.args.skeleton.drawn c.carriers-marks.ensures c.requires.0 (rw c.in-At.is at c.find_origins.ensures)
    c.arrives.ensures c.if-not-arrives.false
