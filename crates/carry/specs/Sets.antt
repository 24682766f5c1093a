-- Sets of term numbers that say which terms have a property.
use Rattle.std.specs.Prelude.{◌≡◌, Bool, true, false, ◌↔◌, ℕ, ◌≤◌, ◌<◌, length}
use mathlib.Core.List.{List, Memᴰ}
use Rattle.terms.specs.declared.TermSet.{TermSet}
use Rattle.terms.specs.Set.{mem}
use Rattle.model.specs.Term.{Term}
use Rattle.model.specs.Carry.{Carries, Occurs, OnlyWithin}
use Rattle.model.specs.Subst.{Variable}
use Rattle.model.specs.Table.{Row, term}
use Rattle.model.specs.Answers.{Member}
use Rattle.theory.specs.Within.{Loose}
use Rattle.theory.specs.Carrying.{Marked}
use Rattle.carry.specs.Next.{parts_next}

-- the set r has what s has, and what a visit of the term t, whose row is q, adds
pub record Visited (part : Row → ℕ → Bool) (start : TermSet) (t : ℕ) (q : Row) (s r : TermSet) : Type 0 where
  pub at : (k : ℕ) → mem r k ≡ parts_next part (mem start) (mem s) t q k

-- of the numbers below n, the set has those with P
pub record Shows (n : ℕ) (P : ℕ → Type 0) (s : TermSet) : Type 0 where
  pub at : (i : ℕ) → (mem s i ≡ true) ↔ ((i < n) × P i)

-- the terms in which t is carried outside all members of the set
pub record IsLoose (rows : List Row) (set : TermSet) (t : ℕ) (s : TermSet) : Type 0 where
  pub shows : Shows (length rows) (λ i. Loose (Marked rows (mem set)) (term rows t) (term rows i)) s

-- the terms that carry t
pub record IsCarriers (rows : List Row) (t : ℕ) (s : TermSet) : Type 0 where
  pub shows : Shows (length rows) (λ i. Carries (term rows t) (term rows i)) s

-- of the numbers below n, the set has none from `top` on
pub record EndsBy (n top : ℕ) (s : TermSet) : Type 0 where
  pub none : (k : ℕ) → top ≤ k → k < n → mem s k ≡ false

-- the term occurs in a member
pub record InMember (rows : List Row) (set : TermSet) (t : Term) : Type 0 where
  pub which : ℕ
  pub inside : which < length rows
  pub member : mem set which ≡ true
  pub occurs : Occurs t (term rows which)

-- the terms that occur in members of the set
pub record IsParts (rows : List Row) (set s : TermSet) : Type 0 where
  pub shows : Shows (length rows) (λ i. InMember rows set (term rows i)) s

-- a member carries the term
pub record CarriedIn (rows : List Row) (set : TermSet) (t : Term) : Type 0 where
  pub which : ℕ
  pub inside : which < length rows
  pub member : mem set which ≡ true
  pub carries : Carries t (term rows which)

-- the terms that members of the set carry
pub record IsCarried (rows : List Row) (set s : TermSet) : Type 0 where
  pub shows : Shows (length rows) (λ i. CarriedIn rows set (term rows i)) s

pub record IsVariables (rows : List Row) (s : TermSet) : Type 0 where
  pub shows : Shows (length rows) (λ i. Variable (term rows i)) s

-- both numbers and those of the list are below n
pub record AreTerms (n t t' : ℕ) (S : List ℕ) : Type 0 where
  pub first : t < n
  pub second : t' < n
  pub all : (k : ℕ) → Memᴰ k S → k < n

-- t is carried only within the terms of the list in t'
abbrev pub WithinLent : List Row → (t t' : ℕ) → List ℕ → Type 0
WithinLent rows t t' S = OnlyWithin (Member t t' S rows) (term rows t) (term rows t')
