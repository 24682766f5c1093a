-- `list::Found::write` meets its contract. Assumes nothing.
use mathlib.Core.Path.{◌∙◌}
use Prim.Native.Nat.{ℕ, ◌≤◌, ◌^◌}
use native.Mathlib.Omega.{arith}
use Rattle.std.proofs.Common.{rules, tests}
use Rattle.std.proofs.iter.Serving.{serving}
use Rattle.std.proofs.lemmas.Iterator.Consumers.{YieldsList-turn, YieldsList-end}
use lib.ListN.{length-drop}
use Rattle.std.proofs.lemmas.List.{take_rest, length_push}
use Rattle.std.proofs.lemmas.List.FromFn.{length-enumerate_from}
use Rattle.list.proofs.Filtered.{passers, turn}
use Rattle.list.specs.Found.{marked}
use Rattle.list.proofs.Powers.{power_most}
use Rattle.list.proofs.EndToEnd.{wrote_none, wrote_more, wrote_long, wrote_all, room}
use Rattle.list.proofs.Found.write.Goals as goal

pub loop-i-init-derived : goal.loop-i-init-derived
loop-i-init-derived c =
    let few = c.args.candidates.few in
    let most : c.args.candidates.base ^ c.args.candidates.n ≤ 46656 = power_most _ _ few.1 few.2 in
    (grind serving, grind serving)

pub loop-i-init : goal.loop-i-init
loop-i-init c = wrote_none _ _ _ _ _ c.requires.1

pub put_digits-requires : goal.put_digits-requires
put_digits-requires c =
    let turned = turn (marked c.args.self.now) _ _ _ _ (YieldsList-turn
    (passers (marked c.args.self.now) _ c.args.total (cc) c.filter-marked.ensures.closure (λ x r q k. search (rules, tests))
    c.enumerate-i-items.ensures.source c.enumerate-i-items.ensures.count c.into_iter-i-iterator.ensures.into_iter_gives)
    c.loop-i.yielded _ c.loop-i.yielded_by _ _ _ c.in-Some.is c.next.ensures.steps) in
    let w = c.loop-i.invariant in
    let fits = room _ _ _ _ _ w turned.inside in
    (omega (arith, turned.below), rw (turned.counted, c.from.ensures) (rw take_rest (omega (arith, fits, wrote_long _ _ _ _ _ w, length-drop {A = ℕ}))))

pub loop-i-preserved : goal.loop-i-preserved
loop-i-preserved c =
    let turned = turn (marked c.args.self.now) _ _ _ _ (YieldsList-turn
    (passers (marked c.args.self.now) _ c.args.total (cc) c.filter-marked.ensures.closure (λ x r q k. search (rules, tests))
    c.enumerate-i-items.ensures.source c.enumerate-i-items.ensures.count c.into_iter-i-iterator.ensures.into_iter_gives)
    c.loop-i.yielded _ c.loop-i.yielded_by _ _ _ c.in-Some.is c.next.ensures.steps) in
    let put = rw (turned.counted, c.from.ensures) at c.put_digits.ensures in
    rw (length_push, turned.counted, c.from.ensures) (wrote_more _ _ _ _ _ c.loop-i.invariant turned.inside turned.is put)

pub returns : goal.returns
returns c =
    let ended = YieldsList-end
    (passers (marked c.args.self.now) _ c.args.total (cc) c.filter-marked.ensures.closure (λ x r q k. search (rules, tests))
    c.enumerate-i-items.ensures.source c.enumerate-i-items.ensures.count c.into_iter-i-iterator.ensures.into_iter_gives)
    c.loop-i.yielded _ c.loop-i.yielded_by _ _ c.in-None.is c.next.ensures.steps in
    wrote_all _ _ _ _ _ c.loop-i.invariant (ended.1 ∙ length-enumerate_from 0 _)
