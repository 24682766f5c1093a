-- Which sheet the bytes are accepted as, or which refusal is their verdict.
use Rattle.std.specs.Prelude.{List, ℕ, Result, Ok, Err}
use Rattle.model.specs.Sheet.{Verdict}
use Rattle.model.specs.Judging.{HasVerdict}
use Rattle.model.specs.Says.{refusal_of}
use Rattle.model.specs.declared.Refusal.{Refusal}
use Rattle.accept.specs.declared.sheet.Sheet.{Sheet}
use Rattle.accept.specs.Held.{Held}

abbrev pub AcceptedAs : List ℕ → Result Sheet Refusal → Type 0
AcceptedAs bytes (Ok sheet) = Held bytes sheet.table.now sheet.inverses.now.of
AcceptedAs bytes (Err r) = HasVerdict bytes (Verdict.refused (refusal_of r))
