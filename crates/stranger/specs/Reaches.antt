-- What the stranger reaches of a table's terms, from a set of sent terms and a set of withheld atoms.
use Rattle.std.specs.Prelude.{◌≡◌, true, List, ◌↔◌, ℕ, ◌<◌, length}
use Rattle.terms.specs.declared.TermSet.{TermSet}
use Rattle.terms.specs.Set.{mem}
use Rattle.model.specs.Term.{Term, atom}
use Rattle.model.specs.Derive.{Derivable}
use Rattle.model.specs.Table.{Row, term}

-- the terms whose numbers are in the set
pub record Named (rows : List Row) (s : TermSet) (t : Term) : Type 0 where
  pub which : ℕ
  pub inside : which < length rows
  pub member : mem s which ≡ true
  pub means : term rows which ≡ t

-- the set has the terms of the table that are derivable, over all terms, from what is sent and what is not withheld
pub record Reaches (rows : List Row) (sent withheld r : TermSet) : Type 0 where
  pub at : (i : ℕ)
      → (mem r i ≡ true) ↔ ((i < length rows) × Derivable (Named rows sent) (λ a. Named rows withheld (atom a)) (term rows i))
