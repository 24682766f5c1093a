-- `realized::with_strand` meets its contract: the loop's set has what is sent before its position. Assumes nothing.
use native.Mathlib.Omega.{arith}
use Rattle.model.specs.Says.{node_of}
use Rattle.realized.proofs.Sending.{gathered_more, gathered_strand}
use Rattle.realized.proofs.with_strand.Goals as goal

pub with_send-all-requires : goal.with_send-all-requires
unfolding node_of
with_send-all-requires c =
    let few = c.args.skeleton.drawn.block.strands in
    record {
      shows = c.requires.shows;
      low = (
        record { strand = omega (arith, few, c.requires.strand_bound.0); position = omega (arith, c.height-position-end.ensures.1) },
        c.requires.strand_bound.1,
      );
    }

pub loop-position-preserved : goal.loop-position-preserved
unfolding node_of
loop-position-preserved c = (
  omega arith,
  gathered_more c.args.skeleton.drawn.block c.loop-position.invariant.1 (omega (arith, c.height-position-end.ensures.1))
      c.with_send-all.ensures,
)

pub returns : goal.returns
returns c =
    gathered_strand c.args.skeleton.drawn.block c.loop-position.invariant.1 (omega (arith, c.height-position-end.ensures.0))
