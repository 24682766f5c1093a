-- `realized::Scene::first_open` meets its contract: nothing on the strands that the loop has passed is open. Assumes nothing.
use borrow.Author.Rules.{rules}
use native.Mathlib.Omega.{arith}
use Rattle.realized.proofs.Opening.{passed_none, passed_more, passed_first, passed_all}
use Rattle.realized.proofs.Scene.first_open.Goals as goal

pub loop-s-init : goal.loop-s-init
loop-s-init c = (search rules, passed_none)

pub open_on-requires : goal.open_on-requires
open_on-requires c =
    record { ready = (c.requires, c.withheld-held.ensures); strand_bound = omega (arith, c.strand_count-s-end.ensures.0) }

pub returns-in-Some : goal.returns-in-Some
returns-in-Some c = passed_first c.loop-s.invariant.1 c.in-Some.ensures

pub loop-s-preserved : goal.loop-s-preserved
loop-s-preserved c = (omega arith, passed_more c.loop-s.invariant.1 c.in_default.ensures)

pub returns : goal.returns
returns c =
    let skeleton = c.args.self.skeleton in
    passed_all skeleton.table.now skeleton.block c.loop-s.invariant.1 (omega (arith, c.strand_count-s-end.ensures.0))
