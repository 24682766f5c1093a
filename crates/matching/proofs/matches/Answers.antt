-- `matching::matches` meets its contract: the outcome of the demands and the pass is map rule 3. Assumes nothing.
use Rattle.std.proofs.Common.{refl, rules}
use Rattle.matching.proofs.Decided.{all_blank}
use Rattle.matching.proofs.Outcomes.{ends_stopped, ends_went}
use Rattle.matching.proofs.Taking.{decided}
use Rattle.matching.proofs.matches.Goals as goal

pub invariant_of-sheet : goal.invariant_of-sheet
invariant_of-sheet c =
    let drawn = c.args.sides.drawn.0 in
    record { ready = record { filled = drawn.filled; good = drawn.good; inverted = c.requires.inverted } }

pub returns-then-ask_all : goal.returns-then-ask_all
returns-then-ask_all c =
    let s = c.args.sides.drawn in
    let blank = all_blank _ (c.fill.ensures.after (λ y e. search rules)) c.told-images in
    let ends = ends_went _ c.ask_all.ensures c.if-ask_all.true c.descend.ensures in
    (decided s.0 s.1 c.requires.laid blank ends, c.descend.ensures.long)

pub returns-else-ask_all : goal.returns-else-ask_all
returns-else-ask_all c =
    let s = c.args.sides.drawn in
    let blank = all_blank _ (c.fill.ensures.after (λ y e. search rules)) c.told-images in
    let ends = ends_stopped _ c.ask_all.ensures c.if-ask_all.false refl in
    (rw c.if-ask_all.false (decided s.0 s.1 c.requires.laid blank ends), c.ask_all.ensures.long)
