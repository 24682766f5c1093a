-- `realized::Scene::open_on` meets its contract: nothing before the loop's position is open. Assumes nothing.
use borrow.Author.Rules.{rules}
use native.Mathlib.Omega.{arith}
use Rattle.model.specs.Says.{node_of}
use Rattle.realized.proofs.Opening.{closed_none, closed_more, open_here, closed_strand}
use Rattle.realized.proofs.Scene.open_on.Goals as goal

pub loop-position-init : goal.loop-position-init
loop-position-init c = (search rules, closed_none)

pub is_open-requires-clause-ready : goal.is_open-requires-clause-ready
unfolding node_of
is_open-requires-clause-ready c =
    let few = c.args.self.skeleton.drawn.block.strands in (
      c.requires.ready.0,
      record {
        strand = omega (arith, few, c.requires.strand_bound);
        position = omega (arith, c.height-position-end.ensures.1);
      },
    )

pub returns-then-is_open : goal.returns-then-is_open
unfolding node_of
returns-then-is_open c =
    open_here c.loop-position.invariant.1 (rw c.if-is_open.true at c.is_open.ensures)

pub loop-position-preserved : goal.loop-position-preserved
unfolding node_of
loop-position-preserved c =
    (omega arith, closed_more c.loop-position.invariant.1 (rw c.if-is_open.false at c.is_open.ensures))

pub returns : goal.returns
returns c =
    closed_strand c.args.self.skeleton.drawn c.loop-position.invariant.1 (omega (arith, c.height-position-end.ensures.0))
