-- The numbers of the words so far are counted, and a word has at most 64.
use Rattle.std.proofs.Common.{◌≡◌, ◌*◌, ◌≤◌}
use Rattle.terms.specs.Set.{count, member}
use Rattle.terms.proofs.TermSet.count.Given as goal

abbrev pub invariant-loop-w : goal.invariant-loop-w
invariant-loop-w l = (l.n ≡ count (member l.w-items) (l.w-index * 64)) × (l.n ≤ l.w-index * 64)
