-- The image of an atom, by the images that rule 3 leaves.
use Rattle.std.specs.Prelude.{◌≡◌, List, ℕ, ◌<◌, Option, Some, None, T, length}
use Rattle.terms.specs.declared.Term as Number
use Rattle.model.specs.Term.{Term}
use Rattle.model.specs.Carry.{Occurs}
use Rattle.model.specs.Subst.{Subst, apply, Variable}
use Rattle.model.specs.Table.{Row, term}
use Rattle.model.specs.Reading.{an_atom}
use Rattle.theory.specs.OnSheet.{OnSheet}
use Rattle.tables.specs.Tables.{byte}

module _ (rows : List Row) where
  -- the number of a term, if it is on the sheet
  pub data IsImage (t : Term) : Option Number.Term → Type 0 where
    on : {i : ℕ} → i < length rows → term rows i ≡ t → IsImage t (Some (record { 0 = i }))
    off : ¬ OnSheet rows t → IsImage t None

  module _ (images : List ℕ) where
    -- where a term has an image, it is that of the substitution
    pub record Gives (σ : Subst) : Type 0 where
      pub image : (i : ℕ) → i < length rows → byte images i < length rows → term rows (byte images i) ≡ apply σ (term rows i)

    -- the term a is an atom each of whose variables has an image
    pub record Known (a : ℕ) : Type 0 where
      pub atom : T (an_atom rows a)
      pub variables : (x : ℕ) → x < length rows → Variable (term rows x) → Occurs (term rows x) (term rows a)
          → byte images x < length rows

    -- what the answer r says of the term a
    pub record Imaged (a : ℕ) (r : Option Number.Term) : Type 0 where
      pub is : (σ : Subst) → Gives σ → Known a → IsImage (apply σ (term rows a)) r
      pub inside : (i : ℕ) → r ≡ Some (record { 0 = i }) → i < length rows
