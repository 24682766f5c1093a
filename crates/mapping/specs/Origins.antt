-- The node where a term originates.
use Rattle.std.specs.Prelude.{◌≡◌, List, ℕ, Option, Some}
use Rattle.terms.specs.declared.Node as Code
use Rattle.model.specs.Table.{Row, term}
use Rattle.model.specs.Skeleton.{Node, Skeleton, means}
use Rattle.model.specs.Says.{node_of}
use Rattle.model.specs.Events.{Origin}

module _ (rows : List Row) (K : Skeleton ℕ) where
  -- r is the one origin of the term a, if it has one origin
  pub record StartsAt (a : ℕ) (r : Option Code.Node) : Type 0 where
    pub at : (n : Node) → Origin (means (term rows) K) (term rows a) n
        → ((m : Node) → Origin (means (term rows) K) (term rows a) m → m ≡ n)
        → (c : Code.Node) × (r ≡ Some c) × (node_of c ≡ n)
