-- `records::readers::read_term` meets its contract.
-- Assumes nothing.
use Rattle.std.proofs.Common.{arith}
use Rattle.tables.proofs.Look.{length-rows}
use Rattle.records.proofs.Tests.{whole_term}
use Rattle.records.proofs.readers.read_term.Goals as goal

pub returns : goal.returns
returns c = whole_term _ _ (rw length-rows (omega arith)) (omega arith) (c.term_said.ensures _)
