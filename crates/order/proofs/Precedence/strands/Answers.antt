-- `order::Precedence::strands` meets its contract. Assumes nothing.
use borrow.Author.Rules.{rules}
use Prim.Native.Nat.{◌<◌, ◌+◌, ◌/◌}
use Rattle.tables.specs.Layout.{strand_count}
use Rattle.tables.specs.Tables.{byte}
use Rattle.order.proofs.Adding.{strand_more, strand_skip}
use Rattle.order.proofs.Precedence.strands.Goals as goal
use Rattle.order.proofs.Precedence.strands.Goals.{then-a-height, else-a-height}

pub loop-a-preserved : goal.loop-a-preserved
loop-a-preserved c =
    let l = c.loop-a in
    let strand : l.a / 16 < byte c.args.table.now (c.args.block + strand_count) = search rules in
    let low = c.requires.1.low (l.a / 16) strand in
    let read = c.height_at.ensures in
    let wide = c.from-height.ensures in
    elim c.if-a-height.branch [
      | then-a-height w ↦ rw w.self-is
          (search rules, strand_more l.invariant.1 w.put.ensures (search rules) strand (rw (wide, read) at w.if-a-height.true))
      | else-a-height w ↦ rw w.self-is (search rules, strand_skip l.invariant.1 (rw (wide, read) at w.if-a-height.false))
    ]
