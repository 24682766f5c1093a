-- What is known while the nodes of K are passed, one after the other.
use Rattle.std.specs.Prelude.{◌≡◌, Bool, true, ℕ, ◌+◌, ◌*◌, ◌≤◌, ◌<◌, Option, Some, None}
use Rattle.terms.specs.declared.TermSet.{TermSet}
use Rattle.terms.specs.declared.Node as Code
use Rattle.terms.specs.Set.{mem}
use Rattle.model.specs.Skeleton.{Event, message, Node, Skeleton, At}
use Rattle.model.specs.Says.{node_of}
use Rattle.origin.specs.Marked.{FirstSent}

-- the set has the messages of the events before position p of strand s, and no others than messages of events
pub record Gathered (K : Skeleton ℕ) (s p : ℕ) (set : TermSet) : Type 0 where
  pub has : (n : Node) (e : Event ℕ) → 16 * n.strand + n.position < 16 * s + p → At K n e → mem set (message e) ≡ true
  pub only : (i : ℕ) → mem set i ≡ true → (n : Node) × (e : Event ℕ) × At K n e × (message e ≡ i)

module _ (K : Skeleton ℕ) (marks : ℕ → Bool) where
  -- there is no origin on the strands from a to n
  abbrev pub NoneFrom : ℕ → ℕ → Type 0
  NoneFrom a n = (m : Node) → a ≤ m.strand → m.strand < n → ¬ FirstSent K marks m

  -- the first origin on the strands from a on
  pub data NextIs (a : ℕ) : Option Code.Node → Type 0 where
    nowhere : ((m : Node) → a ≤ m.strand → ¬ FirstSent K marks m) → NextIs a None
    here : {n : Code.Node} → a ≤ n.strand.0 → FirstSent K marks (node_of n) → NoneFrom a n.strand.0 → NextIs a (Some n)
