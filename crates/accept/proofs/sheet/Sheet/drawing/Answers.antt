-- `accept::sheet::Sheet::drawing` meets its contract. Assumes nothing.
use Rattle.accept.proofs.Lies.{is_drawn}
use Rattle.accept.proofs.Known.{stored_of}
use Rattle.accept.proofs.sheet.Sheet.drawing.Goals as goal

pub invariant_of-result : goal.invariant_of-result
invariant_of-result c =
    let stored = stored_of c.args.self.stored in
    record { drawn = rw c.block_of.ensures (is_drawn c.args.self.table.now stored.filled stored.sound c.args.k c.requires) }
