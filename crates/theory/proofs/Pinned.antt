-- Exactly one answer and one content of lent memory to each question, from the bytes; and the agreement.
use Rattle.std.specs.Prelude.{◌≡◌, refl, ◌↔◌, List, [], ℕ}
use Rattle.model.specs.Skeleton.{Node}
use Rattle.model.specs.Sheet.{Sheet, Verdict, HasSkeleton}
use Rattle.model.specs.Judging.{HasVerdict}
use Rattle.model.specs.Answers.{Gives, Answer, Asked, bad_sheet, Always, TheSheet, SaysCounts, AskSheet, HasTerms, SaysWithin, AskWithin, HasReception, HasReceptionAndTerm, SaysDerivable, AskDerivable, SaysReach, AskReach, SaysRealized, AskRealized, HasSkeletons, ImageRoom, SaysMap, AskMap, ListRoom, SaysList, AskList}
use Rattle.theory.specs.Judgement.{Sound}
use Rattle.theory.proofs.Verdicts.{TheVerdict, verdict_of, verdict_one, verdict_sound}
use Rattle.theory.specs.NoSecond.{Same, sheet_one, within_one, derivable_one, reach_answer_one, realized_one, map_one, list_one}
use Rattle.theory.specs.Agreement.{Alike, Agree}
use Rattle.theory.proofs.Agreement.{alike_back, alike_agree}
use Rattle.theory.proofs.Asking.{Answered, ask_sheet, ask_within, ask_derivable, ask_reach, ask_realized, ask_map, ask_list}

-- there is an answer, and there is no second
pub record ExactlyOne (bytes : List ℕ) {A : Type 0} (Question : Verdict → Answer A → List ℕ → Type 0) : Type 0 where
  pub there_is : Answered bytes Question
  pub no_second : (a b : Answer A) (l m : List ℕ) → Gives bytes Question a l → Gives bytes Question b m → Same a b l m

-- of an accepted sheet
abbrev OneOf : {A : Type 0} → (Verdict → Answer A → List ℕ → Type 0) → Type 0
OneOf {A} Question = (s : Sheet) → Sound s → (a b : Answer A) (l m : List ℕ) → Question (Verdict.accepted s) a l → Question
    (Verdict.accepted s) b m → Same a b l m

module _ {X A : Type 0} (Subject : Sheet → X → Type 0) (Room : X → Type 0) (Says : X → A → List ℕ → Type 0) (lent : List ℕ)
    (one : OneOf (Asked Subject Room Says lent)) where
  same_verdict : {bytes : List ℕ} (v : Verdict) → HasVerdict bytes v → {a b : Answer A} {l m : List ℕ}
      → Asked Subject Room Says lent v a l
      → Asked Subject Room Says lent v b m
      → Same a b l m
  same_verdict (Verdict.refused r) h bad_sheet bad_sheet = record { answer = refl; bytes = refl }
  same_verdict (Verdict.accepted s) h {a} {b} {l} {m} p q = one s (verdict_sound h) a b l m p q

  exactly_one : (bytes : List ℕ) → Answered bytes (Asked Subject Room Says lent) → ExactlyOne bytes (Asked Subject Room Says lent)
  exactly_one bytes there =
      record {
        there_is = there;
        no_second = λ a b l m g k.
            let e : k.verdict ≡ g.verdict = verdict_one k.judged g.judged in
            same_verdict g.verdict g.judged g.is (rw e at k.is);
      }

-- No second answer about an accepted sheet

pub record OneEach : Type 0 where
  pub sheet : OneOf AskSheet
  pub within : (t t' : ℕ) (S : List ℕ) → OneOf (AskWithin t t' S)
  pub derivable : (k : ℕ) (n : Node) (t : ℕ) → OneOf (AskDerivable k n t)
  pub reach : (k : ℕ) (n : Node) → OneOf (AskReach k n)
  pub realized : (k : ℕ) → OneOf (AskRealized k)
  pub map : (source target : ℕ) (map lent : List ℕ) → OneOf (AskMap source target map lent)
  pub list : (source target : ℕ) (lent : List ℕ) → OneOf (AskList source target lent)

pub one_each : OneEach
one_each =
    record {
      sheet = λ s _ a b l m p q. sheet_one s p q;
      within = λ t t' S s _ a b l m p q. within_one t t' S s p q;
      derivable = λ k n t s _ a b l m p q. derivable_one k n t s p q;
      reach = λ k n s _ a b l m p q. reach_answer_one k n s p q;
      realized = λ k s _ a b l m p q. realized_one k s p q;
      map = λ source target bytes lent s sound a b l m p q. map_one source target s sound.good bytes lent p q;
      list = λ source target lent s _ a b l m p q. list_one source target s lent p q;
    }

-- EXACTLY ONE ANSWER TO EACH QUESTION, whatever the bytes

pub record Pinned (bytes : List ℕ) : Type 0 where
  pub verdict : TheVerdict bytes
  pub no_second : (v w : Verdict) → HasVerdict bytes v → HasVerdict bytes w → v ≡ w
  pub sheet : ExactlyOne bytes AskSheet
  pub within : (t t' : ℕ) (S : List ℕ) → ExactlyOne bytes (AskWithin t t' S)
  pub derivable : (k : ℕ) (n : Node) (t : ℕ) → ExactlyOne bytes (AskDerivable k n t)
  pub reach : (k : ℕ) (n : Node) → ExactlyOne bytes (AskReach k n)
  pub realized : (k : ℕ) → ExactlyOne bytes (AskRealized k)
  pub map : (source target : ℕ) (map lent : List ℕ) → ExactlyOne bytes (AskMap source target map lent)
  pub list : (source target : ℕ) (lent : List ℕ) → ExactlyOne bytes (AskList source target lent)

pub pinned : (bytes : List ℕ) → Pinned bytes
unfolding AskSheet AskWithin AskDerivable AskReach AskRealized AskMap AskList
pinned bytes =
    record {
      verdict = verdict_of bytes;
      no_second = λ v w h k. verdict_one h k;
      sheet = exactly_one TheSheet Always SaysCounts [] one_each.sheet bytes (ask_sheet bytes);
      within = λ t t' S. exactly_one (HasTerms t t' S) Always (SaysWithin t t' S) S (one_each.within t t' S) bytes
          (ask_within t t' S bytes);
      derivable = λ k n t. exactly_one (HasReceptionAndTerm k n t) Always (SaysDerivable k n t) [] (one_each.derivable k n t)
          bytes (ask_derivable k n t bytes);
      reach = λ k n. exactly_one (HasReception k n) Always (SaysReach k n) [] (one_each.reach k n) bytes (ask_reach k n bytes);
      realized = λ k. exactly_one (HasSkeleton k) Always SaysRealized [] (one_each.realized k) bytes (ask_realized k bytes);
      map = λ source target map lent. exactly_one (HasSkeletons source target) (ImageRoom source target map lent)
          (SaysMap source target map lent) lent (one_each.map source target map lent) bytes
          (ask_map source target map lent bytes);
      list = λ source target lent. exactly_one (HasSkeletons source target) (ListRoom source target lent)
          (SaysList source target lent) lent (one_each.list source target lent) bytes (ask_list source target lent bytes);
    }

-- THE AGREEMENT, from bytes: "For two accepted sheets with the same TM records and the same skeleton 0, all answers about
-- skeleton 0 alone agree, whatever skeleton 1 says"

abbrev Agrees : {A : Type 0} → (Verdict → Answer A → List ℕ → Type 0) → List ℕ → List ℕ → Type 0
Agrees {A} Question bytes bytes' = (a : Answer A) (l : List ℕ) → Gives bytes Question a l ↔ Gives bytes' Question a l

-- the two give the same answer, and leave the same in lent memory: `pinned` says that there is no other
pub record SameAnswers (bytes bytes' : List ℕ) : Type 0 where
  pub within : (t t' : ℕ) (S : List ℕ) → Agrees (AskWithin t t' S) bytes bytes'
  pub derivable : (n : Node) (t : ℕ) → Agrees (AskDerivable 0 n t) bytes bytes'
  pub reach : (n : Node) → Agrees (AskReach 0 n) bytes bytes'
  pub realized : Agrees (AskRealized 0) bytes bytes'
  pub map : (map lent : List ℕ) → Agrees (AskMap 0 0 map lent) bytes bytes'
  pub list : (lent : List ℕ) → Agrees (AskList 0 0 lent) bytes bytes'

gives_along : {bytes bytes' : List ℕ} {s s' : Sheet} → HasVerdict bytes (Verdict.accepted s)
    → HasVerdict bytes' (Verdict.accepted s')
    → {A : Type 0} (Question : Verdict → Answer A → List ℕ → Type 0) (a : Answer A) (l : List ℕ)
    → (Question (Verdict.accepted s) a l → Question (Verdict.accepted s') a l)
    → Gives bytes Question a l
    → Gives bytes' Question a l
gives_along {s} {s'} h h' Question a l f g =
    let e : g.verdict ≡ Verdict.accepted s = verdict_one g.judged h in
    record { verdict = Verdict.accepted s'; judged = h'; is = f (rw e at g.is) }

pub agreement : (bytes bytes' : List ℕ) (s s' : Sheet) → HasVerdict bytes (Verdict.accepted s)
    → HasVerdict bytes' (Verdict.accepted s') → Alike s s'
    → SameAnswers bytes bytes'
agreement bytes bytes' s s' h h' e =
    let f : Agree s s' = alike_agree s s' e in
    let g : Agree s' s = alike_agree s' s (alike_back e) in
    record {
      within = λ t t' S a l. (gives_along h h' _ a l (f.within t t' S a l), gives_along h' h _ a l (g.within t t' S a l));
      derivable = λ n t a l. (gives_along h h' _ a l (f.derivable n t a l), gives_along h' h _ a l (g.derivable n t a l));
      reach = λ n a l. (gives_along h h' _ a l (f.reach n a l), gives_along h' h _ a l (g.reach n a l));
      realized = λ a l. (gives_along h h' _ a l (f.realized a l), gives_along h' h _ a l (g.realized a l));
      map = λ map lent a l. (gives_along h h' _ a l (f.map map lent a l), gives_along h' h _ a l (g.map map lent a l));
      list = λ lent a l. (gives_along h h' _ a l (f.list lent a l), gives_along h' h _ a l (g.list lent a l));
    }
