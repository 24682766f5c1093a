-- `carry::Way::below` meets its contract: the loop's set has the arguments of the terms that were visited. Assumes nothing.
use mathlib.Core.Path.{◌≡◌}
use Prim.Native.Nat.{◌-◌}
use borrow.Author.Rules.{rules}
use Rattle.carry.proofs.Closing.{gone_none, gone_on, gone_all}
use Rattle.carry.proofs.Way.below.Goals as goal

pub loop-i-init : goal.loop-i-init
loop-i-init c = let p = c.requires in gone_none _ _ p.0 p.1 p.3

pub loop-i-preserved : goal.loop-i-preserved
loop-i-preserved c =
    let p = c.requires in
    let l = c.loop-i in
    gone_on _ _ p.0 p.1 (l.i - 1) _ (search rules) (search rules) l.invariant c.visit.ensures

pub returns : goal.returns
returns c =
    let e : c.loop-i.i ≡ 0 = search rules in
    gone_all _ _ c.requires.0 c.requires.1 (rw e at c.loop-i.invariant)
