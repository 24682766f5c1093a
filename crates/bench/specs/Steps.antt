-- What the steps towards the report leave in the buffer.
use Rattle.std.specs.Prelude.{◌≡◌, List, [], ◌++◌, ℕ, zero, suc, ◌*◌, ◌≤◌, ◌<◌, length, take, drop}
use Rattle.model.specs.Sheet.{Sheet, Refusal, Verdict, Drawing, HasSkeleton}
use Rattle.model.specs.Judging.{HasVerdict}
use Rattle.model.specs.Answers.{Answer, refused, answered, Gives, Openness, AskRealized, AskList}
use Rattle.model.specs.Lines.{maps_line, map_line}
use Rattle.lines.specs.Written.{Put, Line, told_line}

-- n is the number of strands of skeleton 0, where the sheet is good
pub record StrandsOf (bytes : List ℕ) (n : ℕ) : Type 0 where
  pub is : (s : Sheet) (D : Drawing) → HasVerdict bytes (Verdict.accepted s) → HasSkeleton 0 s D
      → n ≡ length D.skeleton.strands

-- the lines of the first k maps of n numbers that lie end to end
unfoldable pub lines_upto : ℕ → ℕ → List ℕ → List ℕ
lines_upto zero n space = []
lines_upto (suc k) n space = lines_upto k n space ++ map_line (take n (drop (k * n) space))

module _ (bytes : List ℕ) where
  pub record SkeletonTold (k : ℕ) (before : List ℕ) (at : ℕ) (after : List ℕ) (r : ℕ) : Type 0 where
    pub answer : Answer Openness
    pub gives : Gives bytes (AskRealized k) answer []
    pub line : Line 72 before at (told_line k answer) after r

  module _ (lent : List ℕ) where
    -- the list question's answer, and the lines of the maps as they lie in the space
    pub data ListSaid : List ℕ → Type 0 where
      refusal : {r : Refusal} {space : List ℕ} → Gives bytes (AskList 0 1 lent) (refused r) space
          → ListSaid (maps_line 0 1 (refused r))
      maps : {count n : ℕ} {space : List ℕ} → Gives bytes (AskList 0 1 lent) (answered count) space → StrandsOf bytes n
          → ListSaid (maps_line 0 1 (answered count) ++ lines_upto count n space)

    pub record ListTold (before : List ℕ) (at : ℕ) (after : List ℕ) (r : ℕ) : Type 0 where
      pub text : List ℕ
      pub said : ListSaid text
      pub put : Put before at text after r

    pub data AnswersSaid (skeletons : ℕ) : List ℕ → Type 0 where
      one : {o : Answer Openness} → skeletons < 2 → Gives bytes (AskRealized 0) o [] → AnswersSaid skeletons (told_line 0 o)
      two : {o p : Answer Openness} {text : List ℕ} → 2 ≤ skeletons → Gives bytes (AskRealized 0) o []
          → Gives bytes (AskRealized 1) p []
          → ListSaid text
          → AnswersSaid skeletons (told_line 0 o ++ told_line 1 p ++ text)

    pub record AnswersTold (skeletons : ℕ) (before : List ℕ) (at : ℕ) (after : List ℕ) (r : ℕ) : Type 0 where
      pub text : List ℕ
      pub said : AnswersSaid skeletons text
      pub put : Put before at text after r
