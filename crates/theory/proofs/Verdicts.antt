-- The verdict on any bytes: there is one, there is no second, and what an accepted sheet is.
use Rattle.std.specs.Prelude.{◌≡◌, refl, List, ℕ, suc, length}
use Rattle.std.proofs.Common.{ap, arith}
use Rattle.model.specs.Sheet.{Sheet, Verdict, refused, accepted}
use Rattle.model.specs.Reading.{Reading, faulty, read, Read, start}
use Rattle.model.specs.Accepting.{Accepting, right}
use Rattle.model.specs.Judging.{HasVerdict, unread, judged}
use Rattle.theory.specs.Outcome.{read_one, reads, reads_read, read_raw}
use Rattle.theory.specs.Judgement.{Raw, Sound}
use Rattle.theory.proofs.Judgement.{judge, accepting_one, accepted_sound}

pub record TheVerdict (bytes : List ℕ) : Type 0 where
  pub verdict : Verdict
  pub is : HasVerdict bytes verdict

unfoldable pub verdict_after : (bytes : List ℕ) (r : Reading) → Read start 0 bytes r → TheVerdict bytes
unfolding judge
verdict_after bytes (faulty r) h = record { verdict = refused r; is = unread h }
verdict_after bytes (read s) h =
    let j = judge s (read_raw h) in
    record { verdict = j.verdict; is = judged h j.is }

-- there is a verdict
unfoldable pub verdict_of : (bytes : List ℕ) → TheVerdict bytes
unfolding verdict_after reads start
verdict_of bytes =
    verdict_after bytes (reads (suc (length bytes)) start 0 bytes) (reads_read (suc (length bytes)) start 0 bytes (omega arith))

-- there is no second
pub verdict_one : {bytes : List ℕ} {v w : Verdict} → HasVerdict bytes v → HasVerdict bytes w → v ≡ w
verdict_one (unread {r} h) (unread {r = q} k) = let z = read_one h k in let y : r ≡ q = cc in ap refused y
verdict_one (unread h) (judged k a) = let z = read_one h k in let y : ◌≡◌ {A = ℕ} 0 1 = cc in absurd (omega arith)
verdict_one (judged h a) (unread k) = let z = read_one h k in let y : ◌≡◌ {A = ℕ} 0 1 = cc in absurd (omega arith)
verdict_one (judged {s} h a) (judged {s = t} k b) = let z = read_one h k in let y : s ≡ t = cc in accepting_one s a (rw y b)

pub accepting_same : {s t : Sheet} → Accepting s (accepted t) → s ≡ t
accepting_same (right n g) = refl

-- an accepted sheet has a good table, drawings on it, and skeletons in the sense of 001
pub verdict_sound : {bytes : List ℕ} {s : Sheet} → HasVerdict bytes (accepted s) → Sound s
verdict_sound {s} (judged {s = t} h a) =
    let e : t ≡ s = accepting_same a in
    let r : Raw s = rw e at (read_raw h) in
    accepted_sound s r (rw e at a)
