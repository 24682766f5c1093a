-- What a sheet that was read is within the limits: its NO and UO records name atoms. Assumes nothing.
use mathlib.Core.Path.{◌≡◌}
use mathlib.Core.List.{List}
use Prim.Native.Nat.{ℕ}
use Rattle.model.specs.Sheet.{Sheet, Verdict}
use Rattle.model.specs.Judging.{HasVerdict, judged}
use Rattle.theory.specs.Places.{in_list}
use Rattle.theory.proofs.Verdicts.{accepting_same}
use Rattle.theory.specs.Encoding.{WithinLimits, read_encoded}
use Rattle.tables.specs.Tables.{sheet_in}
use Rattle.accept.proofs.Lies.{has_skeleton}
use Rattle.mapping.specs.Listed.{AtomsListed}

pub verdict_within : {bytes : List ℕ} {s : Sheet} → HasVerdict bytes (Verdict.accepted s) → WithinLimits s
verdict_within {s} (judged {s = u} r a) =
    let e : u ≡ s = accepting_same a in
    rw e at (read_encoded r).within

pub within_listed : (t : List ℕ) → WithinLimits (sheet_in t) → AtomsListed t
unfolding sheet_in
within_listed t w =
    record {
      nons = λ k h. (w.drawings _ (in_list _ k (has_skeleton t k h).skeleton)).nons;
      uniqs = λ k h. (w.drawings _ (in_list _ k (has_skeleton t k h).skeleton)).uniqs;
    }

pub atoms_listed : {bytes t : List ℕ} → HasVerdict bytes (Verdict.accepted (sheet_in t)) → AtomsListed t
atoms_listed {t} v = within_listed t (verdict_within v)
