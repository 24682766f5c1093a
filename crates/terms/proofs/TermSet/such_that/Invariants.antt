-- Of the terms so far the set has those that pass.
use Rattle.terms.specs.Set.{HasThose}
use Rattle.terms.proofs.TermSet.such_that.Given as goal

abbrev pub invariant-loop-i : goal.invariant-loop-i
invariant-loop-i g l = HasThose l.i (λ k r. goal.F-post g l.test (record { 0 = k }) r) l.set
