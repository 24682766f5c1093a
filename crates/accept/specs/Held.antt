-- What a table holds once a sheet is accepted.
use Rattle.std.specs.Prelude.{◌≡◌, List, ℕ, ◌≤◌, ◌<◌, length, Result, Ok, Err}
use Rattle.model.specs.Sheet.{Sheet, Verdict}
use Rattle.model.specs.Accepting.{Accepting, Right}
use Rattle.model.specs.Judging.{HasVerdict}
use Rattle.model.specs.Says.{refusal_of}
use Rattle.model.specs.declared.Refusal.{Refusal}
use Rattle.theory.specs.Judgement.{Sound}
use Rattle.tables.specs.Layout.{skeleton_count, block, table_size}
use Rattle.tables.specs.Tables.{byte, rows_in, sheet_in, Filled}
use Rattle.keys.specs.Inverted.{Inverted}
use Rattle.tables.specs.Drawn.{drawing, Drawn}

-- every skeleton of the table is ready to be judged
pub record AllDrawn (t : List ℕ) : Type 0 where
  pub at : (k : ℕ) → k < byte t skeleton_count → Drawn t (block k)
  pub long : length t ≡ table_size
  pub few : byte t skeleton_count ≤ 2

-- the first n skeletons of the table are right
pub record RightBelow (t : List ℕ) (n : ℕ) : Type 0 where
  pub at : (j : ℕ) → j < n → Right (drawing t (block j))

-- the sheet of the bytes is accepted, and lies in the table, with its inverses
pub record Held (bytes t inverses : List ℕ) : Type 0 where
  pub verdict : HasVerdict bytes (Verdict.accepted (sheet_in t))
  pub filled : Filled t
  pub inverted : Inverted (rows_in t) inverses
  pub inverses_long : length inverses ≡ 200

-- the skeletons judged in turn
abbrev pub JudgedAll : {A : Type 0} → Sheet → Result A Refusal → Type 0
JudgedAll s (Ok x) = Accepting s (Verdict.accepted s)
JudgedAll s (Err r) = Accepting s (Verdict.refused (refusal_of r))

-- the sheet in the table judged, with the inverses where it is accepted
abbrev pub SheetAs : List ℕ → List ℕ → Result (Unit {0}) Refusal → Type 0
SheetAs t inverses (Ok x) =
    Accepting (sheet_in t) (Verdict.accepted (sheet_in t)) × Inverted (rows_in t) inverses × (length inverses ≡ 200)
SheetAs t inverses (Err r) = Accepting (sheet_in t) (Verdict.refused (refusal_of r))

-- what a question about the sheet in the table may rely on
pub record Stored (t inverses : List ℕ) : Type 0 where
  pub sound : Sound (sheet_in t)
  pub filled : Filled t
  pub inverted : Inverted (rows_in t) inverses
  pub inverses_long : length inverses ≡ 200
