-- `bench::strands` meets its contract: it reads the count from the accepted sheet's table. Assumes nothing.
use mathlib.Core.Path.{◌∙◌}
use Rattle.bench.proofs.Telling.{strands_none, strands_held}
use Rattle.bench.proofs.strands.Goals as goal

pub returns-in-Ok : goal.returns-in-Ok
returns-in-Ok c = strands_held c.in-Ok.ensures (c.from.ensures ∙ (rw c.block_of.ensures at c.strands_in.ensures))

pub returns-in-Err : goal.returns-in-Err
returns-in-Err c = strands_none c.in-Err.ensures
