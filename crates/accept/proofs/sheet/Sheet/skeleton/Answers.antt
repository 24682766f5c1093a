-- `accept::sheet::Sheet::skeleton` meets its contract. Assumes nothing.
use mathlib.Core.Path.{sym, ◌∙◌}
use mathlib.Core.Bool.{true≢false}
use Rattle.accept.proofs.Lies.{has_skeleton, skeleton_lies}
use Rattle.accept.proofs.Known.{stored_of}
use Rattle.accept.proofs.sheet.Sheet.skeleton.Goals as goal

pub has_skeleton-requires : goal.has_skeleton-requires
has_skeleton-requires c = (stored_of c.args.self.stored).filled

pub returns-then-has_skeleton : goal.returns-then-has_skeleton
returns-then-has_skeleton c = (
  c.drawing.ensures.0,
  c.drawing.ensures.1,
  has_skeleton c.args.self.table.now c.args.k (c.has_skeleton.ensures.0 c.if-has_skeleton.true),
)

pub returns : goal.returns
returns c D h =
    let inside = (skeleton_lies c.args.self.table.now c.args.k D h).inside in
    true≢false (sym (c.has_skeleton.ensures.1 inside) ∙ c.if-has_skeleton.false)
