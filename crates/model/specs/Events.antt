-- "Precedence is the transitive closure of strand succession and the OR pairs, which run from a send to a reception. It
-- has no cycle. An atom originates on a strand if some event there carries it and the first that does is a send; that
-- node is its origin."
use mathlib.Core.List.{Memᴰ}
use Rattle.std.specs.Prelude.{ℕ, suc, ◌<◌}
use Rattle.model.specs.Term.{Term}
use Rattle.model.specs.Carry.{Carries, Occurs}
use Rattle.model.specs.Skeleton.{Event, send, recv, message, Node, Skeleton, height, At}

module _ {M : Type 0} (K : Skeleton M) where
  pub data Before : Node → Node → Type 0 where
    next : {s p : ℕ} → suc p < height K s → Before (record { strand = s; position = p }) (record { strand = s; position = suc p })
    listed : {m n : Node} → Memᴰ (m, n) K.order → Before m n
    chain : {m n o : Node} → Before m n → Before n o → Before m o

module _ (K : Skeleton Term) where
  -- the node is a send that carries the term, and nothing before it on its strand carries it
  pub record Origin (t : Term) (n : Node) : Type 0 where
    pub said : Term
    pub at : At K n (send said)
    pub carries : Carries t said
    pub first : (p : ℕ) (e : Event Term) → p < n.position → At K (record { strand = n.strand; position = p }) e
        → ¬ Carries t (message e)

  -- the same of a reception
  pub record Taken (t : Term) (n : Node) : Type 0 where
    pub heard : Term
    pub at : At K n (recv heard)
    pub carries : Carries t heard
    pub first : (p : ℕ) (e : Event Term) → p < n.position → At K (record { strand = n.strand; position = p }) e
        → ¬ Carries t (message e)

  -- How a term first appears on a strand
  pub data Appearance : Type 0 where
    not_carried : Appearance
    in_send in_reception : ℕ → Appearance

  pub data Appears (t : Term) (s : ℕ) : Appearance → Type 0 where
    nowhere : ((p : ℕ) (e : Event Term) → At K (record { strand = s; position = p }) e → ¬ Carries t (message e))
        → Appears t s not_carried
    first_sent : {p : ℕ} → Origin t (record { strand = s; position = p }) → Appears t s (in_send p)
    first_taken : {p : ℕ} → Taken t (record { strand = s; position = p }) → Appears t s (in_reception p)

  -- the term occurs in some event
  pub record InSomeEvent (t : Term) : Type 0 where
    pub node : Node
    pub event : Event Term
    pub at : At K node event
    pub occurs : Occurs t (message event)
