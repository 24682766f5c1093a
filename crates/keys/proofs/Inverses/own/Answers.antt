-- `keys::Inverses::own` meets its contract. The loop's invariant: the first i numbers are their own. Assumes nothing.
use mathlib.Core.Path.{◌≡◌}
use native.Mathlib.Omega.{arith}
use borrow.Author.Rules.{rules}
use Rattle.keys.proofs.Pairing.{own_none, own_more}
use Rattle.keys.proofs.Inverses.own.Goals as goal

pub loop-i-init : goal.loop-i-init
loop-i-init c = (search rules, own_none (search rules))

pub loop-i-preserved : goal.loop-i-preserved
loop-i-preserved c = (search rules, rw c.from.ensures (own_more (omega arith) c.loop-i.invariant.1))

pub returns : goal.returns
returns c =
    let all : c.loop-i.i ≡ c.args.n = omega arith in
    rw all at c.loop-i.invariant.1
