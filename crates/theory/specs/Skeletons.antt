-- Skeletons in the sense of 001.
use Rattle.std.specs.Prelude.{◌≡◌}
use mathlib.Core.List.{Memᴰ}
use Rattle.model.specs.Skeleton.{Event, recv, message, Node, Skeleton, At}
use Rattle.model.specs.Events.{Before, Origin, InSomeEvent}
use Rattle.model.specs.Term.{Term}
use Rattle.model.specs.Carry.{Carries, Occurs}
use Rattle.model.specs.Subst.{Variable}

module _ {M : Type 0} (K : Skeleton M) where
  pub at_one : {n : Node} {d e : Event M} → At K n d → At K n e → d ≡ e
  at_one h k = cc (h.is, k.is)

-- The rules of a skeleton
module _ (K : Skeleton Term) where
  pub record IsSkeleton : Type 0 where
    pub acyclic : (n : Node) → ¬ Before K n n
    pub non_carried : (t : Term) → Memᴰ t K.non → (n : Node) (e : Event Term) → At K n e → ¬ Carries t (message e)
    pub non_occurs : (t : Term) → Memᴰ t K.non → (x : Term) → Variable x → Occurs x t → InSomeEvent K x
    pub an_origin : (t : Term) → Memᴰ t K.uniq → (n : Node) × Origin K t n
    pub one_origin : (t : Term) → Memᴰ t K.uniq → (m n : Node) → Origin K t m → Origin K t n → m ≡ n
    pub after_origin : (t : Term) → Memᴰ t K.uniq → (m n : Node) (u : Term) → Origin K t m → At K n (recv u) → Carries t u
        → Before K m n
