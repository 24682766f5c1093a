-- `bench::put_map` meets its contract: the part has n numbers. Assumes nothing.
use native.Mathlib.Omega.{arith}
use Rattle.bench.proofs.MapLines.{part_line}
use Rattle.bench.proofs.put_map.Goals as goal

pub returns-clause-text : goal.returns-clause-text
returns-clause-text c = part_line c.args.space.now c.args.from c.args.n (omega arith) c.map_line.ensures.text
