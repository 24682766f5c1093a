-- Laws of skeletons: where an event is, precedence, origins.
use Rattle.std.specs.Prelude.{◌≡◌, refl, ◌↔◌, ℕ, suc, ◌+◌, ◌<◌}
use Rattle.std.proofs.Common.{sym as back, ◌∙◌, arith}
use mathlib.Core.List.{[], ◌∷◌, Memᴰ}
use Rattle.std.proofs.Math.Option.{none, some}
use Rattle.std.proofs.Math.ListN.{get_elem?}
use Rattle.model.specs.Term.{Term, tag, hash}
use Rattle.model.specs.Carry.{Carries, Occurs}
use Rattle.model.specs.Table.{Tag, Hash, meaning, terms_after, term}
use Rattle.model.specs.Skeleton.{Event, send, recv, message, Node, Skeleton, height, At, on_message, means}
use Rattle.model.specs.Sheet.{Sheet, Drawing, meant, HasSkeleton}
use Rattle.model.specs.Events.{Before, next, listed, chain, Origin, Taken, Appears, nowhere, first_sent, first_taken, in_send, in_reception, not_carried, InSomeEvent}
use Rattle.model.proofs.Samples.{node, skeleton}

-- EVENTS

-- strand 0 sends 5 and receives 6, strand 1 receives 7
unfoldable pub three_events : Skeleton ℕ
three_events = skeleton ((send 5 ∷ recv 6 ∷ []) ∷ (recv 7 ∷ []) ∷ []) ((node 0 0, node 1 0) ∷ []) (1 ∷ 2 ∷ []) (3 ∷ [])

-- "strands and positions count from 0"
pub events_at : At three_events (node 0 0) (send 5) × At three_events (node 0 1) (recv 6) × At three_events (node 1 0) (recv 7)
unfolding three_events
events_at = (record { is = refl }, record { is = refl }, record { is = refl })

no_event : {A : Type 0} {x : A} → none ≡ some x → ⊥
no_event e = let z : ◌≡◌ {A = ℕ} 0 1 = cc in omega arith

pub no_event_beyond : (e : Event ℕ) → (¬ At three_events (node 0 2) e) × (¬ At three_events (node 1 1) e)
    × (¬ At three_events (node 2 0) e)
unfolding three_events
no_event_beyond e = (λ a. no_event a.is, λ a. no_event a.is, λ a. no_event a.is)

pub heights : (height three_events 0 ≡ 2) × (height three_events 1 ≡ 1) × (height three_events 2 ≡ 0)
unfolding three_events
heights = (refl, refl, refl)

pub one_event : {M : Type 0} (K : Skeleton M) (n : Node) (d e : Event M) → At K n d → At K n e → d ≡ e
one_event K n d e a b = let z : some d ≡ some e = back a.is ∙ b.is in cc

pub messages : {M : Type 0} (t : M) → (message (send t) ≡ t) × (message (recv t) ≡ t)
unfolding message
messages t = (refl, refl)

-- with terms in place of their numbers: each message and each atom, and nothing else
pub all_replaced : means (λ n. n + 10) three_events
    ≡ skeleton ((send 15 ∷ recv 16 ∷ []) ∷ (recv 17 ∷ []) ∷ []) ((node 0 0, node 1 0) ∷ []) (11 ∷ 12 ∷ []) (13 ∷ [])
unfolding means on_message three_events
all_replaced = refl

-- the terms are those of the drawing's own rows
abbrev small : Drawing
small = record { rows = Tag 7 ∷ Hash 0 ∷ []; skeleton = skeleton ((send 1 ∷ recv 0 ∷ []) ∷ []) [] (0 ∷ []) (1 ∷ []) }

pub meant_by_its_rows : meant small
    ≡ skeleton ((send (hash (tag 7)) ∷ recv (tag 7) ∷ []) ∷ []) [] (tag 7 ∷ []) (hash (tag 7) ∷ [])
unfolding meant means on_message term terms_after meaning
meant_by_its_rows = refl

-- a drawing is a skeleton of the sheet with the sheet's terms
pub has_skeleton_iff : (k : ℕ) (s : Sheet) (D : Drawing)
    → HasSkeleton k s D ↔ ((s.rows ≡ D.rows) × (get_elem? s.skeletons k ≡ some D.skeleton))
has_skeleton_iff k s D = (λ h. (h.rows, h.skeleton), λ (r, e). record { rows = r; skeleton = e })

-- "skeletons count from 0"
unfoldable pub two_skeletons : Sheet
unfolding three_events
two_skeletons = record { rows = Tag 0 ∷ []; skeletons = three_events ∷ skeleton ((send 0 ∷ []) ∷ []) [] [] [] ∷ [] }

pub skeleton_0 : (D : Drawing) → HasSkeleton 0 two_skeletons D → D.skeleton ≡ three_events
unfolding two_skeletons
skeleton_0 D h = let e = h.skeleton in let z : three_events ≡ D.skeleton = cc in back z

pub skeleton_1 : (D : Drawing) → HasSkeleton 1 two_skeletons D → D.skeleton ≡ skeleton ((send 0 ∷ []) ∷ []) [] [] []
unfolding two_skeletons
skeleton_1 D h =
    let e = h.skeleton in
    let z : ◌≡◌ {A = Skeleton ℕ} (skeleton ((send 0 ∷ []) ∷ []) [] [] []) D.skeleton = cc in
    back z

pub no_skeleton_2 : (D : Drawing) → ¬ HasSkeleton 2 two_skeletons D
unfolding two_skeletons
no_skeleton_2 D h = no_event h.skeleton

-- PRECEDENCE: "the transitive closure of strand succession and the OR pairs"

module _ {M : Type 0} (K : Skeleton M) where
  pub succession : (s p : ℕ) → suc p < height K s → Before K (node s p) (node s (suc p))
  succession s p h = next h

  pub or_pairs : (m n : Node) → Memᴰ (m, n) K.order → Before K m n
  or_pairs m n h = listed h

  pub transitive : (m n o : Node) → Before K m n → Before K n o → Before K m o
  transitive m n o p q = chain p q

  -- it lies in every transitive relation that has both
  module _ (R : Node → Node → Type 0) (steps : (s p : ℕ) → suc p < height K s → R (node s p) (node s (suc p)))
      (pairs : (m n : Node) → Memᴰ (m, n) K.order → R m n)
      (chains : (m n o : Node) → R m n → R n o → R m o) where
    pub precedence_least : {m n : Node} → Before K m n → R m n
    precedence_least (next h) = steps _ _ h
    precedence_least (listed h) = pairs _ _ h
    precedence_least (chain p q) = chains _ _ _ (precedence_least p) (precedence_least q)

-- ORIGINS: "An atom originates on a strand if some event there carries it and the first that does is a send; that node is its
-- origin."

module _ (K : Skeleton Term) (t : Term) where
  -- nothing before the node on its strand carries it
  abbrev pub FirstOn : Node → Type 0
  FirstOn n = (p : ℕ) (e : Event Term) → p < n.position → At K (node n.strand p) e → ¬ Carries t (message e)

  pub origin_iff : (n : Node) → Origin K t n ↔ ((u : Term) × At K n (send u) × Carries t u × FirstOn n)
  origin_iff n =
      (λ o. (o.said, o.at, o.carries, o.first), λ (u, a, c, f). record { said = u; at = a; carries = c; first = f })

  pub taken_iff : (n : Node) → Taken K t n ↔ ((u : Term) × At K n (recv u) × Carries t u × FirstOn n)
  taken_iff n =
      (λ o. (o.heard, o.at, o.carries, o.first), λ (u, a, c, f). record { heard = u; at = a; carries = c; first = f })

  -- how it first appears on a strand
  pub appears_sent : (s p : ℕ) → Appears K t s (in_send p) ↔ Origin K t (node s p)
  appears_sent s p = (λ a. go a, λ o. first_sent o)
    where
      go : Appears K t s (in_send p) → Origin K t (node s p)
      go (first_sent o) = o

  pub appears_taken : (s p : ℕ) → Appears K t s (in_reception p) ↔ Taken K t (node s p)
  appears_taken s p = (λ a. go a, λ o. first_taken o)
    where
      go : Appears K t s (in_reception p) → Taken K t (node s p)
      go (first_taken o) = o

  pub appears_nowhere : (s : ℕ) → Appears K t s not_carried
      ↔ ((p : ℕ) (e : Event Term) → At K (node s p) e → ¬ Carries t (message e))
  appears_nowhere s = (λ a. go a, λ h. nowhere h)
    where
      go : Appears K t s not_carried → (p : ℕ) (e : Event Term) → At K (node s p) e → ¬ Carries t (message e)
      go (nowhere h) = h

  -- "occur in some event"
  pub in_event_iff : InSomeEvent K t ↔ ((n : Node) × (e : Event Term) × At K n e × Occurs t (message e))
  in_event_iff =
      (λ h. (h.node, h.event, h.at, h.occurs), λ (n, e, a, o). record { node = n; event = e; at = a; occurs = o })
