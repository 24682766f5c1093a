-- `bench::put_maps` meets its contract: the lines of the maps before the loop's index are written. Assumes nothing.
use mathlib.Core.Path.{◌≡◌}
use Prim.Native.Nat.{◌+◌, ◌*◌}
use native.Mathlib.Omega.{arith}
use borrow.Author.Rules.{rules}
use Rattle.lines.proofs.Puts.{put_length}
use Rattle.bench.proofs.MapLines.{maps_none, maps_more, piece}
use Rattle.bench.proofs.put_maps.Goals as goal

pub loop-k-init : goal.loop-k-init
loop-k-init c = (maps_none (omega arith), search rules)

pub overflow_mul-k : goal.overflow_mul-k
overflow_mul-k c =
    let a = c.args in
    let p = piece c.loop-k.k a.count a.n (omega arith) in
    omega arith

pub put_map-requires : goal.put_map-requires
put_map-requires c =
    let a = c.args in
    let k = c.loop-k.k in
    let p = piece k a.count a.n (omega arith) in
    let q = piece k a.count (4 * a.n + 1) (omega arith) in
    (omega arith, omega (arith, c.loop-k.invariant.0.short, put_length c.loop-k.invariant.0.put))

pub loop-k-preserved : goal.loop-k-preserved
loop-k-preserved c = (maps_more c.loop-k.invariant.0 c.put_map.ensures.text, search rules)

pub returns-clause-text : goal.returns-clause-text
returns-clause-text c =
    let e : c.loop-k.k ≡ c.args.count = omega arith in
    rw e at c.loop-k.invariant.0.put
