-- The skeletons judged in turn give the verdict on the sheet in the table. Assumes nothing.
use mathlib.Core.Path.{◌≡◌}
use mathlib.Core.List.{List}
use Prim.Native.Nat.{ℕ, ◌+◌, ◌<◌}
use native.Mathlib.Omega.{arith}
use borrow.Author.Count.{below_more}
use Rattle.std.specs.Prelude.{Result, Ok, Err}
use lib.ListN.{length}
use Rattle.model.specs.declared.Refusal.{Refusal}
use Rattle.model.specs.declared.Reason.{Reason}
use Rattle.model.specs.Sheet.{Verdict, Drawing, HasSkeleton}
use Rattle.model.specs.Accepting.{Accepting, Lacking, Right}
use Rattle.model.specs.Says.{refusal_of}
use Rattle.theory.specs.Judgement.{Raw}
use Rattle.theory.proofs.Judgement.{good_of}
use Rattle.theory.specs.Standing.{Fair}
use Rattle.theory.proofs.Verdicts.{verdict_sound}
use Rattle.tables.specs.Layout.{block, skeleton_count}
use Rattle.theory.specs.Upto.{length-upto}
use Rattle.tables.specs.Tables.{byte, rows_of, rows_in, sheet_in, Filled}
use Rattle.terms.specs.declared.Term.{Term}
use Rattle.model.specs.Table.{Row}
use Rattle.keys.specs.Inverted.{Inverted, Paired}
use Rattle.rules.specs.declared.Fault.{Fault}
use Rattle.tables.specs.Drawn.{drawing}
use Rattle.rules.specs.Judged.{JudgedAs, FaultIs}
use Rattle.accept.specs.Held.{AllDrawn, RightBelow, Held, JudgedAll, SheetAs, Stored}
use Rattle.accept.proofs.Lies.{has_skeleton, skeleton_lies}

pub right_none : (t : List ℕ) → RightBelow t 0
right_none t = record { at = λ j h. absurd (omega arith) }

pub judged_right : {D : Drawing} {x : Unit {0}} → JudgedAs D (Ok x) → Right D
judged_right (JudgedAs.right r) = r

pub judged_faulty : {D : Drawing} {f : Fault} → JudgedAs D (Err f) → FaultIs D f
judged_faulty (JudgedAs.faulty x) = x

pub right_more : (t : List ℕ) (k : ℕ) → RightBelow t k → Right (drawing t (block k)) → RightBelow t (k + 1)
right_more t k r g = record { at = below_more _ _ r.at g }

-- all that stand before are right, of the sheet
sheet_right : (t : List ℕ) (n : ℕ) → RightBelow t n → (j : ℕ) (E : Drawing) → j < n → HasSkeleton j (sheet_in t) E → Right E
sheet_right t n r j E h s = let l = skeleton_lies t j E s in rw (← l.is) (r.at j h)

module _ (t : List ℕ) (whole : (i : ℕ) → ¬ Lacking (rows_in t) i) where
  no_lacking : (i : ℕ) → ¬ Lacking (sheet_in t).rows i
  unfolding sheet_in
  no_lacking = whole

  pub all_right : RightBelow t (byte t skeleton_count) → Accepting (sheet_in t) (Verdict.accepted (sheet_in t))
  all_right r =
      Accepting.right no_lacking (λ k D h. sheet_right t (byte t skeleton_count) r k D (skeleton_lies t k D h).inside h)

  pub one_faulty : (f : Fault) {p : ℕ} (k : ℕ) → k < byte t skeleton_count → RightBelow t k
      → FaultIs (drawing t (block k)) f
      → p ≡ f.place
      → Accepting (sheet_in t) (Verdict.refused (refusal_of (record { reason = f.reason; place = p; skeleton = k })))
  unfolding refusal_of
  one_faulty f k h r x e = rw e (Accepting.faulty no_lacking (has_skeleton t k h) (sheet_right t k r) x)

-- a sheet that was read is ready to be judged

pub fair_rows : (t : List ℕ) → Filled t → Raw (sheet_in t) → Fair (rows_in t)
unfolding sheet_in rows_of
fair_rows t f r =
    record {
      few = rw length-upto f.terms;
      earlier_args = r.earlier;
      sorted_args = r.sorted;
      distinct = r.distinct;
    }

module _ (t : List ℕ) (f : Filled t) (r : Raw (sheet_in t)) (whole : (i : ℕ) → ¬ Lacking (rows_in t) i) where
  pub all_drawn : AllDrawn t
  unfolding sheet_in
  all_drawn =
      record {
        at = λ k h. record {
          filled = f;
          good = good_of (sheet_in t) r whole;
          inside = omega (arith, f.skeletons);
          block = f.blocks k h;
          on_table = r.drawings k (drawing t (block k)) (has_skeleton t k h);
        };
        long = f.long;
        few = f.skeletons;
      }

-- the keys

pub keys_paired : {rows : List Row} {inverses : List ℕ} {x : Unit {0}} → Paired rows inverses (Ok x)
    → ((i : ℕ) → ¬ Lacking rows i) × Inverted rows inverses
keys_paired (Paired.all n i) = (n, i)

pub keys_lack : (t : List ℕ) {inverses : List ℕ} {key : Term} {p : ℕ} → Paired (rows_in t) inverses (Err key) → p ≡ key.0
    → Accepting (sheet_in t)
    (Verdict.refused (refusal_of (record { reason = Reason.KeyWithoutInverse; place = p; skeleton = 0 })))
unfolding refusal_of sheet_in
keys_lack t (Paired.lacks l f) e = rw e (Accepting.lacks l f)

pub sheet_judged : (t : List ℕ) {inverses : List ℕ} (r : Result (Unit {0}) Refusal) → JudgedAll (sheet_in t) r → Inverted (rows_in t) inverses
    → length inverses ≡ 200
    → SheetAs t inverses r
sheet_judged t (Ok x) a i l = (a, i, l)
sheet_judged t (Err r) a i l = a

-- what a question about an accepted sheet may rely on
pub held_stored : {bytes t inverses : List ℕ} → Held bytes t inverses → Stored t inverses
held_stored h =
    record {
      sound = verdict_sound h.verdict;
      filled = h.filled;
      inverted = h.inverted;
      inverses_long = h.inverses_long;
    }
