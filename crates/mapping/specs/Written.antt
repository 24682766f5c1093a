-- What the answer to the map question writes.
use Rattle.std.specs.Prelude.{◌≡◌, cond, List, ℕ, ◌<◌, length, get_or}
use Rattle.terms.specs.declared.TermSet.{TermSet}
use Rattle.terms.specs.Set.{mem}
use Rattle.model.specs.Table.{Row, term}
use Rattle.model.specs.Subst.{Variable}
use Rattle.model.specs.Answers.{over}
use Rattle.tables.specs.Tables.{byte}

-- the byte of the term i, by the set of the variables and the images of all terms
unfoldable pub shown : TermSet → List ℕ → ℕ → ℕ
shown variables images i = cond (mem variables i) (byte images i) 255

-- a byte for each term: its image if it is a variable, else 255; the bytes beyond stay
pub record Written (rows : List Row) (images lent after : List ℕ) : Type 0 where
  pub written : List ℕ
  pub is : after ≡ over written lent
  pub full : length written ≡ length rows
  pub variable : (i : ℕ) → i < length rows → Variable (term rows i) → get_or written i 255 ≡ byte images i
  pub other : (i : ℕ) → i < length rows → ¬ Variable (term rows i) → get_or written i 255 ≡ 255
