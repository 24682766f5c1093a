use Rattle.std.proofs.Common.{◌≡◌, ℕ, ◌<◌, true, Some}
use Rattle.terms.specs.declared.Term.{Term}
use Rattle.terms.specs.Set.{mem}
use Rattle.tables.specs.Tables.{rows_in}
use Rattle.maps.specs.Images.{Imaged}
use Rattle.maps.proofs.images.Images.all.Given as goal

abbrev pub invariant-loop-a : goal.invariant-loop-a
invariant-loop-a g l =
    (k : ℕ) → k < l.a → mem l.from k ≡ true
    → (i : Term) × Imaged (rows_in l.self.sheet.table.now) l.self.bytes.now k (Some i) × goal.F-post g l.test (record { 0 = k }) i true
