-- `reading::next::read_as` meets its contract: each arm is its reader's own.
-- Assumes nothing.
use Rattle.std.proofs.Common.{◌∙◌}
use Rattle.reading.proofs.Nexts.{told_SK, told_ST, told_OR}
use Rattle.reading.proofs.next.read_as.Goals as goal

pub returns-in-SK : goal.returns-in-SK
returns-in-SK c =
    λ last. rw c.in-SK.is
    (told_SK last c.args.table.now _ _ (c.from.ensures ∙ c.skeletons_in.ensures) (c.read_begin.ensures _))

pub returns-in-ST : goal.returns-in-ST
returns-in-ST c =
    λ last. rw c.in-ST.is
    (told_ST last c.args.table.now _ _ c.in_work.ensures _ _ (c.from-in-ST.ensures ∙ c.terms_in.ensures)
    (c.from-in-ST-2.ensures ∙ rw c.block_of.ensures at c.strands_in.ensures) c.read_strand.ensures)

pub returns-in-OR : goal.returns-in-OR
returns-in-OR c = λ last. rw c.in-OR.is (told_OR last c.args.table.now _ _ c.in_work-in-OR.ensures c.read_order.ensures)

pub returns-in-NO : goal.returns-in-NO
returns-in-NO c = λ last. rw c.in-NO.is (c.read_assumed.ensures last)

pub returns-in-UO : goal.returns-in-UO
returns-in-UO c = λ last. rw c.in-UO.is (c.read_assumed-in-UO.ensures last)
