-- No second answer of the code and no second content of lent memory satisfies what a public function promises.
use Rattle.std.specs.Prelude.{◌≡◌, List, ℕ}
use Rattle.model.specs.Skeleton.{Node}
use Rattle.model.specs.Sheet.{Verdict}
use Rattle.model.specs.Answers.{Answer, Gives, AskSheet, AskWithin, AskDerivable, AskReach, AskRealized, AskMap, AskList}
use Rattle.model.specs.Says.{sheet_says, yes_no_says, reach_says, realized_says, map_says, list_says}
use Rattle.model.proofs.SaysLaws.{sheet_says_one, yes_no_says_one, reach_says_one, realized_says_one, map_says_one, list_says_one}
use Rattle.theory.specs.NoSecond.{Same}
use Rattle.theory.proofs.Pinned.{ExactlyOne, pinned}

-- R is the type of the code's answer, and `says` what it says
abbrev OneAnswer : List ℕ → {A R : Type 0} → (Verdict → Answer A → List ℕ → Type 0) → (R → Answer A) → Type 0
OneAnswer bytes {A} {R} Question says =
    (r q : R) (l m : List ℕ) → Gives bytes Question (says r) l → Gives bytes Question (says q) m → Same r q l m

one_answer : {bytes : List ℕ} {A R : Type 0} {Question : Verdict → Answer A → List ℕ → Type 0} (says : R → Answer A)
    → ((r q : R) → says r ≡ says q → r ≡ q)
    → ExactlyOne bytes Question
    → OneAnswer bytes Question says
one_answer says one exactly r q l m g h =
    let s = exactly.no_second (says r) (says q) l m g h in
    record { answer = one r q s.answer; bytes = s.bytes }

pub record AnsweredOnce (bytes : List ℕ) : Type 0 where
  pub sheet : OneAnswer bytes AskSheet sheet_says
  pub within : (t t' : ℕ) (S : List ℕ) → OneAnswer bytes (AskWithin t t' S) yes_no_says
  pub derivable : (k : ℕ) (n : Node) (t : ℕ) → OneAnswer bytes (AskDerivable k n t) yes_no_says
  pub reach : (k : ℕ) (n : Node) → OneAnswer bytes (AskReach k n) reach_says
  pub realized : (k : ℕ) → OneAnswer bytes (AskRealized k) realized_says
  pub map : (source target : ℕ) (map lent : List ℕ) → OneAnswer bytes (AskMap source target map lent) map_says
  pub list : (source target : ℕ) (lent : List ℕ) → OneAnswer bytes (AskList source target lent) list_says

pub answered_one : (bytes : List ℕ) → AnsweredOnce bytes
answered_one bytes =
    let p = pinned bytes in
    record {
      sheet = one_answer sheet_says sheet_says_one p.sheet;
      within = λ t t' S. one_answer yes_no_says yes_no_says_one (p.within t t' S);
      derivable = λ k n t. one_answer yes_no_says yes_no_says_one (p.derivable k n t);
      reach = λ k n. one_answer reach_says reach_says_one (p.reach k n);
      realized = λ k. one_answer realized_says realized_says_one (p.realized k);
      map = λ source target map lent. one_answer map_says map_says_one (p.map source target map lent);
      list = λ source target lent. one_answer list_says list_says_one (p.list source target lent);
    }
