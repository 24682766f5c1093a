-- The rows of a table, by its bytes. Assumes nothing.
use mathlib.Core.Path.{◌≡◌}
use mathlib.Core.List.{List}
use Prim.Native.Nat.{ℕ, ◌<◌}
use lib.ListN.{length}
use Rattle.terms.specs.declared.TermSet.{TermSet}
use Rattle.tables.proofs.Look.{count_is}
use Rattle.tables.specs.Tables.{byte, rows_in, Filled}
use Rattle.carry.specs.Sets.{Shows}

pub inside_in : (t : List ℕ) {i : ℕ} → i < byte t 600 → i < length (rows_in t)
inside_in t h = rw (count_is t) h

-- what is shown of all numbers below the count is shown of the rows
pub shows_all : {t : List ℕ} {i : ℕ} {P : ℕ → Type 0} {s : TermSet} → Filled t → i ≡ byte t 600 → Shows i P s
    → Shows (length (rows_in t)) P s
shows_all {t} filled e shows = rw (count_is t, ← e) shows
