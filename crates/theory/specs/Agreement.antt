-- Two accepted sheets with the same terms and the same skeleton 0 answer alike about skeleton 0.
use Rattle.std.specs.Prelude.{◌≡◌, Bool, List, ℕ}
use Rattle.std.proofs.Math.ListN.{get_elem?}
use Rattle.model.specs.Skeleton.{Node}
use Rattle.model.specs.Sheet.{Sheet, Verdict}
use Rattle.model.specs.Answers.{Answer, AskWithin, AskDerivable, AskReach, Openness, AskRealized, Mapping, AskMap, AskList}

pub record Alike (s s' : Sheet) : Type 0 where
  pub rows : s.rows ≡ s'.rows
  pub skeleton : get_elem? s.skeletons 0 ≡ get_elem? s'.skeletons 0

-- the skeleton that is asked about
abbrev pub about : ℕ
about = 0

-- "all answers about skeleton 0 alone agree, whatever skeleton 1 says (carried only within, derivable, reach, realized, and maps
-- from 0 to itself)": refusals 15 and 16 and lent bytes included
pub record Agree (s s' : Sheet) : Type 0 where
  pub within : (t t' : ℕ) (S : List ℕ) (a : Answer Bool) (l : List ℕ) → AskWithin t t' S (Verdict.accepted s) a l
      → AskWithin t t' S (Verdict.accepted s') a l
  pub derivable : (n : Node) (t : ℕ) (a : Answer Bool) (l : List ℕ) → AskDerivable about n t (Verdict.accepted s) a l
      → AskDerivable about n t (Verdict.accepted s') a l
  pub reach : (n : Node) (a : Answer ℕ) (l : List ℕ) → AskReach about n (Verdict.accepted s) a l
      → AskReach about n (Verdict.accepted s') a l
  pub realized : (a : Answer Openness) (l : List ℕ) → AskRealized about (Verdict.accepted s) a l
      → AskRealized about (Verdict.accepted s') a l
  pub map : (bytes lent : List ℕ) (a : Answer Mapping) (l : List ℕ) → AskMap about about bytes lent (Verdict.accepted s) a l
      → AskMap about about bytes lent (Verdict.accepted s') a l
  pub list : (lent : List ℕ) (a : Answer ℕ) (l : List ℕ) → AskList about about lent (Verdict.accepted s) a l
      → AskList about about lent (Verdict.accepted s') a l
