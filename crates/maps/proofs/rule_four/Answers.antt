-- `maps::rule_four` meets its contract. Assumes nothing.
use Rattle.std.proofs.Common.{arith, below_more}
use Rattle.theory.specs.Tests.{was_no}
use Rattle.maps.proofs.Answers.{granted, refused}
use Rattle.maps.proofs.Keeping.{pair_ends, pair_told, pairs_kept, pair_kept}
use Rattle.maps.proofs.rule_four.Goals as goal

pub moved-requires : goal.moved-requires
moved-requires c =
    let s = c.args.sides in
    let ends = pair_ends s.table.now s.source s.target c.args.map.now s.drawn.0 s.drawn.1 c.requires.kept_to2.strands c.from-from.ensures
    c.order_count-i-end.ensures.0 c.loop-i-test.true c.pair.ensures.send c.pair.ensures.reception in
    omega (arith, ends.first, ends.second)

pub moved-requires-in-loop-i : goal.moved-requires-in-loop-i
moved-requires-in-loop-i c =
    let s = c.args.sides in
    let ends = pair_ends s.table.now s.source s.target c.args.map.now s.drawn.0 s.drawn.1 c.requires.kept_to2.strands c.from-from.ensures
    c.order_count-i-end.ensures.0 c.loop-i-test.true c.pair.ensures.send c.pair.ensures.reception in
    omega (arith, ends.first, ends.second)

pub is_before-requires : goal.is_before-requires
is_before-requires c =
    let s = c.args.sides in
    let ends = pair_ends s.table.now s.source s.target c.args.map.now s.drawn.0 s.drawn.1 c.requires.kept_to2.strands c.from-from.ensures
    c.order_count-i-end.ensures.0 c.loop-i-test.true c.pair.ensures.send c.pair.ensures.reception in
    rw (c.moved.ensures, c.moved-in-loop-i.ensures) (search (ends.first_low, ends.second_low))

pub returns-then-not-is_before : goal.returns-then-not-is_before
returns-then-not-is_before c =
    let s = c.args.sides in
    let ends = pair_ends s.table.now s.source s.target c.args.map.now s.drawn.0 s.drawn.1 c.requires.kept_to2.strands c.from-from.ensures
    c.order_count-i-end.ensures.0 c.loop-i-test.true c.pair.ensures.send c.pair.ensures.reception in
    let answer = rw (c.moved.ensures, c.moved-in-loop-i.ensures) at c.is_before.ensures in
    let told = rw (ends.first_goes, ends.second_goes) at (pair_told answer c.requires.shows (search (ends.first_low, ends.second_low)) (search (ends.first_low, ends.second_low))) in
    refused (λ four. was_no told c.if-not-is_before.true (search (pair_kept s.table.now s.source s.target c.args.map.now four c.loop-i.i ends.here)))

pub loop-i-preserved : goal.loop-i-preserved
loop-i-preserved c =
    let s = c.args.sides in
    let ends = pair_ends s.table.now s.source s.target c.args.map.now s.drawn.0 s.drawn.1 c.requires.kept_to2.strands c.from-from.ensures
    c.order_count-i-end.ensures.0 c.loop-i-test.true c.pair.ensures.send c.pair.ensures.reception in
    let answer = rw (c.moved.ensures, c.moved-in-loop-i.ensures) at c.is_before.ensures in
    let told = rw (ends.first_goes, ends.second_goes) at (pair_told answer c.requires.shows (search (ends.first_low, ends.second_low)) (search (ends.first_low, ends.second_low))) in
    below_more _ _ c.loop-i.invariant (search told.0)

pub returns : goal.returns
returns c =
    let s = c.args.sides in
    let count = rw (c.from-from.ensures.0, c.from-from.ensures.1) at c.order_count-i-end.ensures.0 in
    granted (pairs_kept s.table.now s.source s.target c.args.map.now c.requires.kept_to2.directions
    (λ k h. c.loop-i.invariant k (omega arith)))
