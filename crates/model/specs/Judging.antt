-- The verdict on some bytes, whichever they are. It is what every question starts from.
use Rattle.std.specs.Prelude.{List, ℕ}
use Rattle.model.specs.Sheet.{Sheet, Refusal, Verdict, refused}
use Rattle.model.specs.Reading.{Read, start, faulty, read}
use Rattle.model.specs.Accepting.{Accepting}

pub data HasVerdict (bytes : List ℕ) : Verdict → Type 0 where
  unread : {r : Refusal} → Read start 0 bytes (faulty r) → HasVerdict bytes (refused r)
  judged : {s : Sheet} {v : Verdict} → Read start 0 bytes (read s) → Accepting s v → HasVerdict bytes v
