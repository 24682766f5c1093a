-- The table of inverses: the number of each term's inverse; and refusal 9.
use Rattle.std.specs.Prelude.{◌≡◌, List, ℕ, ◌<◌, length, Result, Ok, Err}
use Rattle.model.specs.Table.{Row}
use Rattle.model.specs.Accepting.{Lacking}
use Rattle.theory.specs.Reach.{inverse_at}
use Rattle.tables.specs.Tables.{byte}
use Rattle.terms.specs.declared.Term.{Term}

pub record Inverted (rows : List Row) (inverses : List ℕ) : Type 0 where
  pub at : (i : ℕ) → i < length rows → byte inverses i ≡ inverse_at rows i

-- the inverses, or the lowest key without its inverse
pub data Paired (rows : List Row) (inverses : List ℕ) : Result (Unit {0}) Term → Type 0 where
  all : ((i : ℕ) → ¬ Lacking rows i) → Inverted rows inverses → Paired rows inverses (Ok tt)
  lacks : {t : ℕ} → Lacking rows t → ((j : ℕ) → j < t → ¬ Lacking rows j) → Paired rows inverses (Err (record { 0 = t }))
