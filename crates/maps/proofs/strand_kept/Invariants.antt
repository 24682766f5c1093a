use Rattle.std.proofs.Common.{◌≡◌, ℕ, ◌+◌, ◌*◌, ◌<◌, eqb}
use Rattle.tables.specs.Layout.{directions}
use Rattle.tables.specs.Tables.{byte}
use Rattle.maps.proofs.strand_kept.Given as goal

abbrev pub invariant-loop-position : goal.invariant-loop-position
invariant-loop-position l =
    let t = l.sides.table.now in
    let i = l.sides.source + directions + 16 * l.s.0 in
    let j = l.sides.target + directions + 16 * l.u.0 in
    (k : ℕ) → k < l.position → eqb (byte t (i + k)) 0 ≡ eqb (byte t (j + k)) 0
