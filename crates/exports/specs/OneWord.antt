-- No second word and no second content of lent memory satisfies what an exported function promises, and a word says one answer.
use Rattle.std.specs.Prelude.{◌≡◌, Bool, List, ℕ, ◌≤◌}
use Rattle.std.proofs.Common.{ap, ◌∙◌, sym as back, arith}
use Rattle.model.specs.Skeleton.{Node}
use Rattle.model.specs.Sheet.{Refusal, Verdict}
use Rattle.model.specs.Answers.{Answer, Gives, Counts, Openness, realized, open_at, Mapping, is_map, breaks, AskSheet, AskWithin, AskDerivable, AskReach, AskRealized, AskMap, AskList}
use Rattle.theory.specs.NoSecond.{Same}
use Rattle.theory.proofs.Pinned.{ExactlyOne, pinned}
use Rattle.theory.proofs.Sizes.{LowRefusal, LowAnswer, low_refusal, low_answer, LowCounts, sheet_low, Any, within_low, derivable_low, reach_low, LowOpenness, low_open, realized_low, LowMapping, low_rule, map_low, list_low}
use Rattle.exports.specs.Words.{sheet_word, yes_no_word, count_word, realized_word, map_word, FitsRefusal, Fits, FitsOpenness, FitsMapping, FitsSheet, FitsYesNo, FitsCount, FitsRealized, FitsMap, sheet_word_one, yes_no_word_one, count_word_one, realized_word_one, map_word_one}
use Rattle.exports.specs.Said.{SaidAs}

-- ONE WORD for what is asked of some bytes

abbrev OneWord : List ℕ → {A : Type 0} → (Verdict → Answer A → List ℕ → Type 0) → (Answer A → ℕ) → Type 0
OneWord bytes Question word_of =
    (l m : List ℕ) (r q : ℕ) → SaidAs bytes Question word_of l r → SaidAs bytes Question word_of m q → Same r q l m

one_word : {bytes : List ℕ} {A : Type 0} {Question : Verdict → Answer A → List ℕ → Type 0} (word_of : Answer A → ℕ)
    → ExactlyOne bytes Question
    → OneWord bytes Question word_of
one_word word_of one l m r q p k =
    let s = one.no_second p.answer k.answer l m p.gives k.gives in
    record { answer = p.is ∙ (ap word_of s.answer ∙ back k.is); bytes = s.bytes }

pub record SaidOnce (bytes : List ℕ) : Type 0 where
  pub sheet : OneWord bytes AskSheet sheet_word
  pub within : (t t' : ℕ) (S : List ℕ) → OneWord bytes (AskWithin t t' S) yes_no_word
  pub derivable : (k : ℕ) (n : Node) (t : ℕ) → OneWord bytes (AskDerivable k n t) yes_no_word
  pub reach : (k : ℕ) (n : Node) → OneWord bytes (AskReach k n) count_word
  pub realized : (k : ℕ) → OneWord bytes (AskRealized k) realized_word
  pub map : (source target : ℕ) (map lent : List ℕ) → OneWord bytes (AskMap source target map lent) map_word
  pub list : (source target : ℕ) (lent : List ℕ) → OneWord bytes (AskList source target lent) count_word

pub said_one : (bytes : List ℕ) → SaidOnce bytes
said_one bytes =
    let p = pinned bytes in
    record {
      sheet = one_word sheet_word p.sheet;
      within = λ t t' S. one_word yes_no_word (p.within t t' S);
      derivable = λ k n t. one_word yes_no_word (p.derivable k n t);
      reach = λ k n. one_word count_word (p.reach k n);
      realized = λ k. one_word realized_word (p.realized k);
      map = λ source target map lent. one_word map_word (p.map source target map lent);
      list = λ source target lent. one_word count_word (p.list source target lent);
    }

-- WHAT IS GIVEN FITS ITS PLACES in the word

refusal_fits : {r : Refusal} → LowRefusal r → FitsRefusal r
unfolding FitsRefusal
refusal_fits l = (omega (arith, l.number), omega (arith, l.skeleton))

answer_fits : {A : Type 0} (FitsValue : A → Type 0) {Low : A → Type 0} {a : Answer A} → ((x : A) → Low x → FitsValue x)
    → LowAnswer Low a
    → Fits FitsValue a
answer_fits FitsValue fits (low_refusal l) = refusal_fits l
answer_fits FitsValue fits (low_answer {a = x} l) = fits x l

sheet_fits : {a : Answer Counts} → LowAnswer LowCounts a → FitsSheet a
unfolding FitsSheet
sheet_fits l = answer_fits _ (λ c k. omega (arith, k.skeletons)) l

yes_no_fits : {a : Answer Bool} → LowAnswer Any a → FitsYesNo a
unfolding FitsYesNo
yes_no_fits l = answer_fits _ (λ so k. tt) l

count_fits : (most : ℕ) {a : Answer ℕ} → LowAnswer (λ n. n ≤ most) a → FitsCount a
unfolding FitsCount
count_fits most l = answer_fits _ (λ n k. tt) l

openness_fits : (o : Openness) → LowOpenness o → FitsOpenness o
openness_fits realized l = tt
openness_fits (open_at n) (low_open l) = (omega (arith, l.strand), omega (arith, l.position))

realized_fits : {a : Answer Openness} → LowAnswer LowOpenness a → FitsRealized a
unfolding FitsRealized
realized_fits l = answer_fits FitsOpenness openness_fits l

mapping_fits : (o : Mapping) → LowMapping o → FitsMapping o
mapping_fits is_map l = tt
mapping_fits (breaks k) (low_rule h l) = omega arith

map_fits : {a : Answer Mapping} → LowAnswer LowMapping a → FitsMap a
unfolding FitsMap
map_fits l = answer_fits FitsMapping mapping_fits l

abbrev Fitting : List ℕ → {A : Type 0} → (Verdict → Answer A → List ℕ → Type 0) → (Answer A → Type 0) → Type 0
Fitting bytes {A} Question Fits = (a : Answer A) (l : List ℕ) → Gives bytes Question a l → Fits a

pub record AllFit (bytes : List ℕ) : Type 0 where
  pub sheet : Fitting bytes AskSheet FitsSheet
  pub within : (t t' : ℕ) (S : List ℕ) → Fitting bytes (AskWithin t t' S) FitsYesNo
  pub derivable : (k : ℕ) (n : Node) (t : ℕ) → Fitting bytes (AskDerivable k n t) FitsYesNo
  pub reach : (k : ℕ) (n : Node) → Fitting bytes (AskReach k n) FitsCount
  pub realized : (k : ℕ) → Fitting bytes (AskRealized k) FitsRealized
  pub map : (source target : ℕ) (map lent : List ℕ) → Fitting bytes (AskMap source target map lent) FitsMap
  pub list : (source target : ℕ) (lent : List ℕ) → Fitting bytes (AskList source target lent) FitsCount

pub all_fit : (bytes : List ℕ) → AllFit bytes
all_fit bytes =
    record {
      sheet = λ a l g. sheet_fits (sheet_low g);
      within = λ t t' S a l g. yes_no_fits (within_low t t' S g);
      derivable = λ k n t a l g. yes_no_fits (derivable_low k n t g);
      reach = λ k n a l g. count_fits 200 (reach_low k n g);
      realized = λ k a l g. realized_fits (realized_low k g);
      map = λ source target map lent a l g. map_fits (map_low source target map lent g);
      list = λ source target lent a l g. count_fits 46656 (list_low source target lent g);
    }

-- ONE ANSWER for a word: what says the same word, of these bytes or of others, has the same answer

abbrev OneAnswer : List ℕ → List ℕ → {A : Type 0} → (Verdict → Answer A → List ℕ → Type 0) → (Answer A → ℕ) → Type 0
OneAnswer bytes bytes' {A} Question word_of =
    (a b : Answer A) (l m : List ℕ) → Gives bytes Question a l → Gives bytes' Question b m → word_of a ≡ word_of b → a ≡ b

one_answer : {bytes bytes' : List ℕ} {A : Type 0} {Question : Verdict → Answer A → List ℕ → Type 0} (word_of : Answer A → ℕ)
    (Fits : Answer A → Type 0)
    → Fitting bytes Question Fits
    → Fitting bytes' Question Fits
    → ((a b : Answer A) → Fits a → Fits b → word_of a ≡ word_of b → a ≡ b)
    → OneAnswer bytes bytes' Question word_of
one_answer word_of Fits f g one a b l m p q e = one a b (f a l p) (g b m q) e

pub record ReadOnce (bytes bytes' : List ℕ) : Type 0 where
  pub sheet : OneAnswer bytes bytes' AskSheet sheet_word
  pub within : (t t' : ℕ) (S : List ℕ) → OneAnswer bytes bytes' (AskWithin t t' S) yes_no_word
  pub derivable : (k : ℕ) (n : Node) (t : ℕ) → OneAnswer bytes bytes' (AskDerivable k n t) yes_no_word
  pub reach : (k : ℕ) (n : Node) → OneAnswer bytes bytes' (AskReach k n) count_word
  pub realized : (k : ℕ) → OneAnswer bytes bytes' (AskRealized k) realized_word
  pub map : (source target : ℕ) (map lent : List ℕ) → OneAnswer bytes bytes' (AskMap source target map lent) map_word
  pub list : (source target : ℕ) (lent : List ℕ) → OneAnswer bytes bytes' (AskList source target lent) count_word

pub read_once : (bytes bytes' : List ℕ) → ReadOnce bytes bytes'
read_once bytes bytes' =
    let f = all_fit bytes in
    let g = all_fit bytes' in
    record {
      sheet = one_answer sheet_word FitsSheet f.sheet g.sheet sheet_word_one;
      within = λ t t' S. one_answer yes_no_word FitsYesNo (f.within t t' S) (g.within t t' S) yes_no_word_one;
      derivable = λ k n t. one_answer yes_no_word FitsYesNo (f.derivable k n t) (g.derivable k n t) yes_no_word_one;
      reach = λ k n. one_answer count_word FitsCount (f.reach k n) (g.reach k n) count_word_one;
      realized = λ k. one_answer realized_word FitsRealized (f.realized k) (g.realized k) realized_word_one;
      map = λ source target map lent. one_answer map_word FitsMap (f.map source target map lent)
          (g.map source target map lent) map_word_one;
      list = λ source target lent. one_answer count_word FitsCount (f.list source target lent)
          (g.list source target lent) count_word_one;
    }
