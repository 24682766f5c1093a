-- What the writing functions leave in a lent buffer: a text at a place.
use Rattle.std.specs.Prelude.{◌≡◌, List, [], ◌∷◌, ◌++◌, ℕ, zero, suc, ◌+◌, ◌≤◌, length, take, drop}
use Rattle.model.specs.Answers.{Answer, refused, answered, Openness}
use Rattle.model.specs.Lines.{decimal, skeleton_line}

-- the text stands at a place, what was before it and beyond it stays, and r is the next place
pub record Put (before : List ℕ) (at : ℕ) (text after : List ℕ) (r : ℕ) : Type 0 where
  pub bytes : after ≡ take at before ++ text ++ drop (at + length text) before
  pub next : r ≡ at + length text
  pub room : r ≤ length before

-- the text and then the number in decimal stand at a place, and the number has at most so many digits
pub record Counted (most : ℕ) (before : List ℕ) (at : ℕ) (text : List ℕ) (n : ℕ) (after : List ℕ) (r : ℕ) : Type 0 where
  pub put : Put before at (text ++ decimal n) after r
  pub short : r ≤ at + length text + most

-- the line stands at a place, and has at most so many bytes
pub record Line (most : ℕ) (before : List ℕ) (at : ℕ) (text after : List ℕ) (r : ℕ) : Type 0 where
  pub put : Put before at text after r
  pub short : r ≤ at + most

-- the line of a skeleton; where it is refused, no line is written
unfoldable pub told_line : ℕ → Answer Openness → List ℕ
unfolding skeleton_line
told_line k (answered o) = skeleton_line k o
told_line k (refused r) = []
