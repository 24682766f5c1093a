-- `list::Candidates::put_digits` meets its contract. Assumes nothing.
use native.Mathlib.Omega.{arith}
use borrow.Author.Rules.{rules}
use Rattle.list.proofs.Written.{left_none, left_more, left_all, weight_some, digit_low}
use Rattle.list.proofs.Candidates.put_digits.Goals as goal

pub loop-i-init : goal.loop-i-init
loop-i-init c = left_none _ _ _ _ _ c.total-weight.ensures.0 c.requires.0

pub nonzero_div-out : goal.nonzero_div-out
nonzero_div-out c = rw c.from-base.ensures (weight_some _ _ _ _ c.loop-i.invariant (search rules) (search rules))

pub overflow_cast-out : goal.overflow_cast-out
overflow_cast-out c =
    let low = digit_low _ _ _ _ c.loop-i.invariant (search rules) (search rules) in
    rw c.from-base.ensures (omega (arith, low))

pub nonzero_rem-rest : goal.nonzero_rem-rest
nonzero_rem-rest c = rw c.from-base.ensures (weight_some _ _ _ _ c.loop-i.invariant (search rules) (search rules))

pub loop-i-preserved : goal.loop-i-preserved
loop-i-preserved c = rw c.from-base.ensures (left_more _ _ _ _ c.loop-i.invariant (search rules) (search rules))

pub returns : goal.returns
returns c = left_all _ _ _ _ c.loop-i.invariant (omega (arith, c.loop-i.invariant.most)) (search rules)
