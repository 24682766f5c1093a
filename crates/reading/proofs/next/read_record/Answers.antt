-- `reading::next::read_record` meets its contract: the code's mark is the one that the definition finds.
-- Assumes nothing.
use Rattle.std.proofs.Common.{arith}
use Rattle.records.specs.Marks.{last_of}
use Rattle.reading.proofs.Nexts.{reads, begun}
use Rattle.reading.proofs.next.read_record.Goals as goal

pub read_as-requires : goal.read_as-requires
read_as-requires c =
    let a = c.args in (
      c.requires.filled,
      omega arith,
      λ i. begun (last_of a.last) a.table.now a.rest.now c.read_mark.ensures c.in-Some.is i c.requires,
    )

pub returns : goal.returns
returns c =
    let a = c.args in
    reads (last_of a.last) a.table.now a.rest.now c.read_mark.ensures c.in-Some.is (omega arith) (c.read_as.ensures _)
