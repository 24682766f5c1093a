-- `maps::rule_one` meets its contract. Assumes nothing.
use Rattle.std.proofs.Common.{◌∙◌, sym, ◌<◌, ◌≤◌, rules, tests}
use Rattle.std.proofs.lemmas.Iterator.{cases_from_all, YieldsList-from_slice}
use Rattle.maps.proofs.Answers.{all_decides}
use Rattle.maps.proofs.Keeping.{one_told, one_refused}
use Rattle.maps.proofs.rule_one.Goals as goal

pub returns-then-map-from : goal.returns-then-map-from
returns-then-map-from c =
    let s = c.args.sides in
    let sources = rw (c.from.ensures.0, c.from.ensures.1) at c.strand_count-sources.ensures.0 in
    one_refused s.table.now s.source s.target c.args.map.now (λ e. c.if-map-from.true (e ∙ sym (c.from-2.ensures ∙ sources)))

pub returns : goal.returns
returns c =
    let s = c.args.sides in
    let map = c.args.map.now in
    let n = c.strand_count-targets.result in
    let by_call = cases_from_all _ _ _ (λ x. x < n) (λ x. n ≤ x) c.all.ensures.ran (YieldsList-from_slice map cc)
    (λ x q k. search (rules, tests)) (λ x q k. search (rules, tests)) in
    let sources = rw (c.from.ensures.0, c.from.ensures.1) at c.strand_count-sources.ensures.0 in
    let targets = rw (c.to.ensures.0, c.to.ensures.1) at c.strand_count-targets.ensures.0 in
    let test = rw targets at (all_decides _ map n by_call) in
    one_told s.table.now s.source s.target map (c.if-map-from.false ∙ (c.from-2.ensures ∙ sources)) test
