-- Whether receptions of marked messages come after a node: of one event, and of many, one after the other. Assumes nothing.
use mathlib.Core.Path.{◌≡◌, sym, ◌∙◌}
use mathlib.Core.Bool.{Bool, true, false, true≢false}
use mathlib.Core.List.{List}
use Prim.Native.Nat.{ℕ, ◌+◌, ◌<◌}
use Rattle.model.specs.Skeleton.{Event, recv, Node, Skeleton, At}
use Rattle.theory.specs.Skeletons.{at_one}
use Rattle.tables.specs.Layout.{heights}
use Rattle.tables.specs.Tables.{byte, skeleton_at}
use Rattle.tables.proofs.Nodes.{at_stands}
use Rattle.origin.specs.Marked.{node}
use Rattle.order.specs.Precedence.{on, code}
use Rattle.rules.specs.Judged.{ArriveAs}
use Rattle.rules.proofs.Asked.{Asked, always, once}

same_message : {K : Skeleton ℕ} {m : Node} {u v : ℕ} → At K m (recv u) → At K m (recv v) → u ≡ v
same_message {K} a d = let e = at_one K a d in cc

module _ {K : Skeleton ℕ} {marks : ℕ → Bool} {before : List ℕ} {n : Node} where
  -- One event

  pub no_reception : {m : Node} → ((u : ℕ) → ¬ At K m (recv u)) → ArriveAs K marks before n (λ x. x ≡ m) true
  no_reception none = ArriveAs.all (λ x u e a h. absurd (none u (rw e at a)))

  pub unmarked : {m : Node} {u : ℕ} → At K m (recv u) → marks u ≡ false → ArriveAs K marks before n (λ x. x ≡ m) true
  unmarked {m} {u} a off =
      ArriveAs.all (λ x v e d h. absurd (true≢false (sym h ∙ rw (same_message (rw e at d) a) off)))

  pub received : {m : Node} {u : ℕ} (b : Bool) → At K m (recv u) → marks u ≡ true → b ≡ on before (code n) (code m)
      → ArriveAs K marks before n (λ x. x ≡ m) b
  received true a on e = ArriveAs.all (λ x v q d h. rw q (sym e))
  received false a on e = ArriveAs.one_early a on (sym e)

  pub arrive_same : {P : Node → Type 0} {b z : Bool} → ArriveAs K marks before n P z → b ≡ z → ArriveAs K marks before n P b
  arrive_same w e = rw e w

  -- The nodes with P, where each of them that has an event has Q k for a number k below the bound

  after : {P : Node → Type 0} → ArriveAs K marks before n P true → (m : Node) (u : ℕ) → P m → At K m (recv u)
      → marks u ≡ true → on before (code n) (code m) ≡ true
  after (ArriveAs.all f) = f

  early : {P Q : Node → Type 0} → ArriveAs K marks before n Q false → ArriveAs K marks before n P false
  early (ArriveAs.one_early a on off) = ArriveAs.one_early a on off

  module _ {P : Node → Type 0} (Q : ℕ → Node → Type 0) (bound : ℕ)
      (found : (m : Node) (e : Event ℕ) → At K m e → P m → (k : ℕ) × (k < bound) × Q k m) where
    pub arrive_all : {r : Bool} → Asked bound (λ k b. ArriveAs K marks before n (Q k) b) r → ArriveAs K marks before n P r
    arrive_all (always w) =
        ArriveAs.all (λ m u p a on. let (k, l, q) = found m (recv u) a p in after (w k l) m u q a on)
    arrive_all (once l h) = early h

-- the nodes of a strand with events are those below its height
pub on_strand : (t : List ℕ) (b s h : ℕ) → h ≡ byte t (b + heights + s) → (m : Node) (e : Event ℕ) → At (skeleton_at t b) m e
    → m.strand ≡ s
    → (k : ℕ) × (k < h) × (m ≡ node s k)
on_strand t b s h e m event a p =
    let below : m.position < byte t (b + heights + s) = rw p at (at_stands t b a).there.position in
    (m.position, rw e below, λ i. record { strand = p i; position = m.position })
