-- What is known of a set while nodes are passed.
use Rattle.std.specs.Prelude.{◌≡◌, true, ◌↔◌, ◌⊎◌, ℕ, ◌+◌, ◌*◌, ◌<◌}
use Rattle.terms.specs.declared.TermSet.{TermSet}
use Rattle.terms.specs.Set.{mem}
use Rattle.model.specs.Skeleton.{send, Node, Skeleton, At}
use Rattle.model.specs.Events.{Before}
use Rattle.order.specs.Precedence.{code}

-- m sends the message i, before n
pub record Sends (K : Skeleton ℕ) (n m : Node) (i : ℕ) : Type 0 where
  pub at : At K m (send i)
  pub before : Before K m n

-- r is the set with what m sends before n
pub record Takes (K : Skeleton ℕ) (n m : Node) (set r : TermSet) : Type 0 where
  pub at : (i : ℕ) → (mem r i ≡ true) ↔ ((mem set i ≡ true) ⊎ Sends K n m i)

-- the set has what the nodes before position p of strand s send before n, and nothing but what is sent before n
pub record Gathered (K : Skeleton ℕ) (n : Node) (s p : ℕ) (set : TermSet) : Type 0 where
  pub has : (m : Node) (i : ℕ) → code m < 16 * s + p → Sends K n m i → mem set i ≡ true
  pub only : (i : ℕ) → mem set i ≡ true → (m : Node) × Sends K n m i
