-- A word says a question's answer: what an exported function promises.
use Rattle.std.specs.Prelude.{◌≡◌, List, ℕ}
use Rattle.model.specs.Skeleton.{Node}
use Rattle.model.specs.Sheet.{Verdict}
use Rattle.model.specs.Answers.{Answer, Gives}

pub record SaidAs (bytes : List ℕ) {A : Type 0} (Question : Verdict → Answer A → List ℕ → Type 0) (word_of : Answer A → ℕ)
    (after : List ℕ)
    (r : ℕ) : Type 0 where
  pub answer : Answer A
  pub gives : Gives bytes Question answer after
  pub is : r ≡ word_of answer

abbrev pub node_at : ℕ → ℕ → Node
node_at s p = record { strand = s; position = p }
