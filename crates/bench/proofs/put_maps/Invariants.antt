use mathlib.Core.Path.{◌≡◌}
use Rattle.bench.proofs.MapLines.{MapsPut}
use Rattle.bench.proofs.put_maps.Given as goal

abbrev pub invariant-loop-k : goal.invariant-loop-k
invariant-loop-k l =
    MapsPut l.space l.n l.k l.fn.page.bytes.now l.fn.page.end l.page.bytes.now l.page.end
    × (l.page.bytes.ghost_name ≡ l.fn.page.bytes.ghost_name)
