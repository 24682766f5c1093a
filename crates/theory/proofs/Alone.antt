-- The agreement where there is no second skeleton: with skeleton 0 alone an accepted sheet is accepted too, and answers alike.
use Rattle.std.specs.Prelude.{◌≡◌, refl, ℕ, zero, suc, ◌≤◌, length, take}
use mathlib.Core.List.Memᴰ
use mathlib.Core.List.{List, [], ◌∷◌, Memᴰ}
use Rattle.std.proofs.Math.Option.{some}
use Rattle.std.proofs.Common.{arith}
use Rattle.std.proofs.Math.ListN.{get_elem?}
use Rattle.model.specs.Sheet.{Sheet, accepted, Drawing, HasSkeleton}
use Rattle.model.specs.Accepting.{Accepting}
use Rattle.model.specs.Accepting as Acc
use Rattle.model.specs.Judging.{HasVerdict, judged}
use Rattle.theory.specs.Places.{not_there}
use Rattle.theory.specs.Encoding.{WithinLimits, encoding, read_encoded}
use Rattle.theory.specs.Readable.{within_read}
use Rattle.theory.proofs.Judgement.{accepted_rights}
use Rattle.theory.proofs.Verdicts.{accepting_same}
use Rattle.theory.specs.Agreement.{Alike}
use Rattle.theory.proofs.Pinned.{SameAnswers, agreement}

unfoldable pub alone : Sheet → Sheet
alone s = record { rows = s.rows; skeletons = take 1 s.skeletons }

module _ {A : Type 0} where
  first_same : (l : List A) → get_elem? l 0 ≡ get_elem? (take 1 l) 0
  first_same [] = refl
  first_same (x ∷ l) = refl

  in_first : (l : List A) {x : A} → Memᴰ x (take 1 l) → Memᴰ x l
  in_first [] m = m
  in_first (y ∷ l) (Memᴰ.head e) = Memᴰ.head e
  in_first (y ∷ l) (Memᴰ.tail m) = absurd (Memᴰ.not-nil m)

  at_first : (l : List A) (k : ℕ) {x : A} → get_elem? (take 1 l) k ≡ some x → get_elem? l k ≡ some x
  at_first [] k e = e
  at_first (y ∷ l) zero e = e
  at_first (y ∷ l) (suc k) e = absurd (not_there e)

  first_length : (l : List A) → 1 ≤ length l → length (take 1 l) ≡ 1
  first_length [] h = absurd (omega arith)
  first_length (y ∷ l) h = refl

pub alike_alone : (s : Sheet) → Alike s (alone s)
unfolding alone
alike_alone s = record { rows = refl; skeleton = first_same s.skeletons }

within_alone : (s : Sheet) → WithinLimits s → WithinLimits (alone s)
unfolding alone
within_alone s w =
    let e = first_length s.skeletons w.one in
    record {
      table = w.table;
      one = omega arith;
      few = omega arith;
      drawings = λ K m. w.drawings K (in_first s.skeletons m);
      strands = λ K m. w.strands K (in_first s.skeletons m);
    }

there : (s : Sheet) (k : ℕ) (D : Drawing) → HasSkeleton k (alone s) D → HasSkeleton k s D
unfolding alone
there s k D h = record { rows = h.rows; skeleton = at_first s.skeletons k h.skeleton }

accepting_alone : {s : Sheet} → Accepting s (accepted s) → Accepting (alone s) (accepted (alone s))
unfolding alone
accepting_alone {s} a =
    Acc.right (accepted_rights a).0 (λ k D h. (accepted_rights a).1 k D (there s k D h))

pub alone_accepted : {bytes : List ℕ} {s : Sheet} → HasVerdict bytes (accepted s)
    → HasVerdict (encoding (alone s)) (accepted (alone s))
alone_accepted {s} (judged {s = t} h a) =
    let e : t ≡ s = accepting_same a in
    let w : WithinLimits s = rw e at (read_encoded h).within in
    let b : Accepting s (accepted s) = rw e at a in
    judged (within_read (alone s) (within_alone s w)) (accepting_alone b)

pub alone_agrees : {bytes : List ℕ} {s : Sheet} → HasVerdict bytes (accepted s) → SameAnswers bytes (encoding (alone s))
alone_agrees {bytes} {s} h = agreement bytes (encoding (alone s)) s (alone s) h (alone_accepted h) (alike_alone s)
