-- `questions::all_terms` meets its contract. Assumes nothing.
use borrow.Author.Rules.{rules}
use borrow.Author.Tests.{tests}
use Prim.Native.Nat.{◌≤◌, ◌<◌}
use Rattle.std.proofs.lemmas.Iterator.{cases_from_all, YieldsList-from_slice}
use Rattle.questions.proofs.Subjects.{all_below}
use Rattle.questions.proofs.all_terms.Goals as goal

pub returns : goal.returns
returns c =
    let numbers = c.args.numbers.now in
    let n = c.args.count in
    all_below _ numbers n (cases_from_all _ _ _ (λ x. x < n) (λ x. n ≤ x) c.all.ensures.ran (YieldsList-from_slice numbers cc)
    (λ x q k. search (rules, tests)) (λ x q k. search (rules, tests)))
