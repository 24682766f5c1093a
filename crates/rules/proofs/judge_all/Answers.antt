-- `rules::judge_all` meets its contract: what is below the loop's number is fine. Assumes nothing.
use borrow.Author.Rules.{rules}
use mathlib.Core.Path.{◌≡◌, refl, sym, ◌∙◌}
use Rattle.rules.specs.Judged.{none, one}
use Rattle.rules.proofs.judge_all.Goals as goal

pub returns-in-Err : goal.returns-in-Err
returns-in-Err g c =
    one (record { 0 = c.loop-i.i }) refl c.loop-i-test.true (sym c.has.ensures ∙ c.if-has.true) c.in-Err.ensures c.loop-i.invariant.1

pub returns : goal.returns
returns g c =
    let all : c.loop-i.i ≡ c.args.n = search rules in
    none (rw all at c.loop-i.invariant.1)
