use mathlib.Core.Path.{◌≡◌}
use Prim.Native.Nat.{◌+◌, ◌≤◌, ◌*◌}
use Rattle.lines.proofs.Parting.{Begun}
use Rattle.lines.proofs.map_line.Given as goal

abbrev pub invariant-loop-strand : goal.invariant-loop-strand
invariant-loop-strand l =
    (l.page.end ≤ l.initial.page.end + 4 * l.strand-index)
    × Begun l.map l.rest l.strand-index l.fn.page.bytes.now l.fn.page.end l.page.bytes.now l.page.end
    × (l.page.bytes.ghost_name ≡ l.fn.page.bytes.ghost_name)
