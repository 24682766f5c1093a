-- `maps::images::Images::all` meets its contract. Assumes nothing.
use Rattle.std.proofs.Common.{sym, ◌∙◌, arith, below_more}
use Rattle.tables.proofs.Look.{count_is}
use Rattle.maps.proofs.images.Images.all.Goals as goal

pub test-requires : goal.test-requires
test-requires g c =
    let inside = rw (count_is c.args.self.sheet.table.now) at (c.of_atom.ensures.inside c.in-Some.image.0 c.in-Some.is) in
    c.requires c.loop-a.a c.in-Some.image.0 (omega arith) inside (sym c.has.ensures ∙ c.if-not-has.false)

pub loop-a-preserved : goal.loop-a-preserved
loop-a-preserved g c =
    let image = rw c.in-Some.is at c.of_atom.ensures in
    let passed = rw c.if-not-test.false at c.test.ensures in
    below_more _ _ c.loop-a.invariant (λ m. (c.in-Some.image, image, passed))
