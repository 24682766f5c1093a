-- How a strand first has a marked message, and where marked messages originate. `marks` says of a message whether it carries the
-- term in question.
use Rattle.std.specs.Prelude.{◌≡◌, Bool, true, false, ◌≢◌, ℕ, ◌<◌}
use Rattle.terms.specs.declared.TermSet.{TermSet}
use Rattle.terms.specs.declared.Node.{Node}
use Rattle.terms.specs.Set.{mem}
use Rattle.model.specs.Skeleton as Skeleton
use Rattle.model.specs.Skeleton.{Event, send, recv, message, Skeleton, At}
use Rattle.model.specs.Says.{node_of}
use Rattle.origin.specs.declared.Appears.{Appears}
use Rattle.origin.specs.declared.Origins.{Origins}

abbrev pub node : ℕ → ℕ → Skeleton.Node
node s p = record { strand = s; position = p }

module _ (K : Skeleton ℕ) (marks : ℕ → Bool) where
  -- nothing before the node on its strand is marked
  abbrev pub NoneBefore : Skeleton.Node → Type 0
  NoneBefore n = (p : ℕ) (e : Event ℕ) → p < n.position → At K (node n.strand p) e → marks (message e) ≡ false

  -- the first marked event of its strand, and a send
  pub record FirstSent (n : Skeleton.Node) : Type 0 where
    pub said : ℕ
    pub at : At K n (send said)
    pub marked : marks said ≡ true
    pub first : NoneBefore n

  -- the first marked event of its strand, and a reception
  pub record FirstReceived (n : Skeleton.Node) : Type 0 where
    pub heard : ℕ
    pub at : At K n (recv heard)
    pub marked : marks heard ≡ true
    pub first : NoneBefore n

  pub data AppearsAs (s : ℕ) : Appears → Type 0 where
    nowhere : ((p : ℕ) (e : Event ℕ) → At K (node s p) e → marks (message e) ≡ false) → AppearsAs s Appears.Nowhere
    sent : {p : ℕ} → FirstSent (node s p) → AppearsAs s (Appears.Sent p)
    received : {p : ℕ} → FirstReceived (node s p) → AppearsAs s (Appears.Received p)

  -- "originates on exactly one strand"
  pub data OriginatesAs : Origins → Type 0 where
    nowhere : ((n : Skeleton.Node) → ¬ FirstSent n) → OriginatesAs Origins.Nowhere
    at : {n : Node} → FirstSent (node_of n) → ((m : Skeleton.Node) → FirstSent m → m ≡ node_of n) → OriginatesAs (Origins.At n)
    several : {m n : Skeleton.Node} → FirstSent m → FirstSent n → m.strand ≢ n.strand → OriginatesAs Origins.Several

-- the set of the messages of all events
pub record IsMessages (K : Skeleton ℕ) (s : TermSet) : Type 0 where
  pub has : (n : Skeleton.Node) (e : Event ℕ) → At K n e → mem s (message e) ≡ true
  pub only : (i : ℕ) → mem s i ≡ true → (n : Skeleton.Node) × (e : Event ℕ) × At K n e × (message e ≡ i)
