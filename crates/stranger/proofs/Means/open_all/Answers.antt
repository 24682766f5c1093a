-- `stranger::Means::open_all` meets its contract. Assumes nothing.
use mathlib.Core.Path.{◌≡◌}
use native.Mathlib.Omega.{arith}
use Rattle.stranger.proofs.Steps.{step_none, none_between, step_down}
use Rattle.stranger.proofs.Means.open_all.Goals as goal

pub loop-i-init : goal.loop-i-init
loop-i-init c = rw c.terms_in-i.ensures (step_none _ none_between)

pub loop-i-preserved : goal.loop-i-preserved
loop-i-preserved c =
    step_down (omega arith) (omega (arith, c.terms_in-i.ensures)) c.loop-i.invariant c.open.ensures

pub returns : goal.returns
returns c =
    let all : c.loop-i.i ≡ 0 = omega arith in
    rw all at c.loop-i.invariant
