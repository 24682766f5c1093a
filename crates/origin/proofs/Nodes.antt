-- What the answer at a node says of receptions. Assumes nothing.
use mathlib.Core.Path.{◌≡◌, refl}
use Prim.Native.Nat.{ℕ}
use native.Mathlib.Omega.{arith}
use Rattle.std.specs.Prelude.{Option, Some}
use Rattle.terms.specs.declared.Term.{Term}
use Rattle.model.specs.Skeleton.{recv, Node, Skeleton, At}
use Rattle.theory.specs.Skeletons.{at_one}
use Rattle.tables.specs.declared.blocks.Event.{Event}
use Rattle.tables.specs.Nodes.{EventIs, nothing, sends, receives}

module _ {K : Skeleton ℕ} {n : Node} where
  pub is_received : {t : Term} → EventIs K n (Some (Event.Reception t)) → At K n (recv t.0)
  is_received (receives a) = a

  -- an answer that is not a reception says that none is there
  pub not_received : (r : Option Event) → ((t : Term) → r ≡ Some (Event.Reception t) → ⊥) → EventIs K n r
      → (m : ℕ) → ¬ At K n (recv m)
  not_received r k (nothing none) m a = none (recv m) a
  not_received r k (sends s) m a = let e = at_one K s a in let z : ◌≡◌ {A = ℕ} 0 1 = cc in omega arith
  not_received r k (receives s) m a = k _ refl
