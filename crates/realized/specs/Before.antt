-- What is sent before a reception, what is withheld, and what the stranger reaches before it.
use Rattle.std.specs.Prelude.{◌≡◌, true, ◌↔◌, ◌⊎◌, ℕ, ◌<◌, length}
use mathlib.Core.List.{Memᴰ}
use Rattle.terms.specs.declared.TermSet.{TermSet}
use Rattle.terms.specs.Set.{mem}
use Rattle.model.specs.Table.{term}
use Rattle.model.specs.Skeleton.{send, Node, Skeleton, At}
use Rattle.model.specs.Events.{Before}
use Rattle.model.specs.Derive.{DerivableBefore}
use Rattle.model.specs.Sheet.{Drawing, meant}

-- the messages of all sends that come before the node
pub record IsSent (K : Skeleton ℕ) (n : Node) (s : TermSet) : Type 0 where
  pub at : (i : ℕ) → (mem s i ≡ true) ↔ ((m : Node) × At K m (send i) × Before K m n)

-- all NO and UO atoms: in an accepted skeleton each UO atom originates
pub record IsWithheld (K : Skeleton ℕ) (s : TermSet) : Type 0 where
  pub at : (i : ℕ) → (mem s i ≡ true) ↔ (Memᴰ i K.non ⊎ Memᴰ i K.uniq)

-- the terms of the table that are derivable before the node
pub record IsReached (D : Drawing) (n : Node) (s : TermSet) : Type 0 where
  pub at : (i : ℕ) → (mem s i ≡ true) ↔ ((i < length D.rows) × DerivableBefore (meant D) n (term D.rows i))
