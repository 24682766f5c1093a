-- From bytes to an answer to each question.
use Rattle.std.specs.Prelude.{List, [], ℕ}
use Rattle.model.specs.Skeleton.{Node}
use Rattle.model.specs.Sheet.{Sheet, Verdict, HasSkeleton}
use Rattle.model.specs.Judging.{HasVerdict}
use Rattle.model.specs.Answers.{Gives, Answer, Asked, bad_sheet, Always, TheSheet, SaysCounts, AskSheet, HasTerms, SaysWithin, AskWithin, HasReception, HasReceptionAndTerm, SaysDerivable, AskDerivable, SaysReach, AskReach, SaysRealized, AskRealized, HasSkeletons, ImageRoom, SaysMap, AskMap, ListRoom, SaysList, AskList}
use Rattle.theory.specs.Judgement.{Sound}
use Rattle.theory.proofs.Verdicts.{verdict_of, verdict_sound}
use Rattle.theory.proofs.Answering.{Had, sheet_had, within_had, derivable_had, reach_had, realized_had}
use Rattle.theory.proofs.Listing.{list_had}
use Rattle.theory.proofs.MapAnswers.{map_had}

-- a question's answer from bytes
pub record Answered (bytes : List ℕ) {A : Type 0} (Question : Verdict → Answer A → List ℕ → Type 0) : Type 0 where
  pub answer : Answer A
  pub after : List ℕ
  pub gives : Gives bytes Question answer after

module _ {X A : Type 0} (Subject : Sheet → X → Type 0) (Room : X → Type 0) (Says : X → A → List ℕ → Type 0) (lent : List ℕ)
    (had : (s : Sheet) → Sound s → Had Subject Room Says lent (Verdict.accepted s)) where
  unfoldable pub answer_to : {bytes : List ℕ} (v : Verdict) → HasVerdict bytes v → Answered bytes (Asked Subject Room Says lent)
  answer_to (Verdict.refused r) h = record {
    answer = Answer.refused r;
    after = lent;
    gives =
        record { verdict = Verdict.refused r; judged = h; is = bad_sheet };
  }
  answer_to (Verdict.accepted s) h =
      let a = had s (verdict_sound h) in
      record { answer = a.answer; after = a.after; gives = record { verdict = Verdict.accepted s; judged = h; is = a.is } }

  unfoldable pub ask : (bytes : List ℕ) → Answered bytes (Asked Subject Room Says lent)
  unfolding answer_to verdict_of
  ask bytes = answer_to (verdict_of bytes).verdict (verdict_of bytes).is

unfoldable pub ask_sheet : (bytes : List ℕ) → Answered bytes AskSheet
unfolding ask sheet_had AskSheet
ask_sheet bytes = ask TheSheet Always SaysCounts [] sheet_had bytes

unfoldable pub ask_within : (t t' : ℕ) (S bytes : List ℕ) → Answered bytes (AskWithin t t' S)
unfolding ask within_had AskWithin
ask_within t t' S bytes = ask (HasTerms t t' S) Always (SaysWithin t t' S) S (within_had t t' S) bytes

unfoldable pub ask_derivable : (k : ℕ) (n : Node) (t : ℕ) (bytes : List ℕ) → Answered bytes (AskDerivable k n t)
unfolding ask derivable_had AskDerivable
ask_derivable k n t bytes = ask (HasReceptionAndTerm k n t) Always (SaysDerivable k n t) [] (derivable_had k n t) bytes

unfoldable pub ask_reach : (k : ℕ) (n : Node) (bytes : List ℕ) → Answered bytes (AskReach k n)
unfolding ask reach_had AskReach
ask_reach k n bytes = ask (HasReception k n) Always (SaysReach k n) [] (reach_had k n) bytes

unfoldable pub ask_realized : (k : ℕ) (bytes : List ℕ) → Answered bytes (AskRealized k)
unfolding ask realized_had AskRealized
ask_realized k bytes = ask (HasSkeleton k) Always SaysRealized [] (realized_had k) bytes

unfoldable pub ask_list : (source target : ℕ) (lent bytes : List ℕ) → Answered bytes (AskList source target lent)
unfolding ask list_had AskList
ask_list source target lent bytes =
    ask (HasSkeletons source target) (ListRoom source target lent) (SaysList source target lent) lent
    (λ s sound. list_had source target s sound lent) bytes

unfoldable pub ask_map : (source target : ℕ) (map lent bytes : List ℕ) → Answered bytes (AskMap source target map lent)
unfolding ask map_had AskMap
ask_map source target map lent bytes =
    ask (HasSkeletons source target) (ImageRoom source target map lent) (SaysMap source target map lent) lent
    (map_had source target map lent) bytes
