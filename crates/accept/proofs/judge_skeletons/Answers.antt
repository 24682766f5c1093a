-- `accept::judge_skeletons` meets its contract. The loop's invariant: the skeletons passed are right. Assumes nothing.
use mathlib.Core.Path.{◌≡◌}
use borrow.Author.Rules.{rules}
use native.Mathlib.Omega.{arith}
use Rattle.tables.specs.Tables.{byte}
use Rattle.accept.proofs.InTurn.{judged_right, judged_faulty, right_none, right_more, all_right, one_faulty}
use Rattle.accept.proofs.judge_skeletons.Goals as goal

pub loop-k-init : goal.loop-k-init
loop-k-init c = (search rules, right_none _)

pub invariant_of-skeleton : goal.invariant_of-skeleton
invariant_of-skeleton c =
    record { drawn = rw c.block_of.ensures (c.requires.0.at c.loop-k.k (omega (arith, c.skeletons_in-k-end.ensures))) }

pub returns-in-Err : goal.returns-in-Err
returns-in-Err c =
    let fault = rw c.block_of.ensures at (judged_faulty c.in-Err.ensures) in
    one_faulty c.args.table.now c.requires.1 c.in-Err.fault c.loop-k.k (omega (arith, c.skeletons_in-k-end.ensures))
    c.loop-k.invariant.1 fault c.from.ensures

pub loop-k-preserved : goal.loop-k-preserved
loop-k-preserved c =
    (omega arith, right_more _ c.loop-k.k c.loop-k.invariant.1 (rw c.block_of.ensures at (judged_right c.in_default.ensures)))

pub returns : goal.returns
returns c =
    let e : c.loop-k.k ≡ byte c.args.table.now 601 = omega (arith, c.skeletons_in-k-end.ensures) in
    all_right c.args.table.now c.requires.1 (rw e at c.loop-k.invariant.1)
