-- Refusals 9 to 14, "Each is given exactly then", with place and skeleton number, in the paper's order: "After EN: 8,
-- 9, then skeleton by skeleton: 10; NO atoms by rising term number, 14 or 11; UO atoms likewise, 12 then 13."
use Rattle.std.specs.Prelude.{◌≡◌, true, ℕ, ◌<◌, length}
use mathlib.Core.List.{List, Memᴰ}
use Rattle.model.specs.Term.{Term}
use Rattle.model.specs.Carry.{Carries, Occurs}
use Rattle.model.specs.Subst.{Variable}
use Rattle.model.specs.Table.{Row, Inv, is_key, row, term}
use Rattle.model.specs.Skeleton.{Event, recv, message, Node, Skeleton, At}
use Rattle.model.specs.Events.{Before, Origin, InSomeEvent}
use Rattle.model.specs.Sheet.{Sheet, Verdict, refused, accepted, Drawing, meant, HasSkeleton}

-- "9: key without inverse": "Each term of kind 6 or 7 has its inverse on the sheet."
pub record Lacking (rows : List Row) (i : ℕ) : Type 0 where
  pub a_term : i < length rows
  pub a_key : is_key (row rows i) ≡ true
  pub no_inverse : (j : ℕ) → j < length rows → ¬ (row rows j ≡ Inv i)

module _ (K : Skeleton Term) where
  -- "10: precedence has a cycle"
  pub record Cyclic : Type 0 where
    pub node : Node
    pub cycle : Before K node node

  -- "11: non-originating atom carried"
  pub record Carried (t : Term) : Type 0 where
    pub node : Node
    pub event : Event Term
    pub at : At K node event
    pub carries : Carries t (message event)

  -- "12: unique atom without exactly one originating strand"
  pub record OriginatesOn (t : Term) (s : ℕ) : Type 0 where
    pub position : ℕ
    pub origin : Origin K t (record { strand = s; position = position })

  pub record OneStrand (t : Term) : Type 0 where
    pub strand : ℕ
    pub originates : OriginatesOn t strand
    pub only : (s : ℕ) → OriginatesOn t s → s ≡ strand

  -- "13: reception carries it, not after its origin"
  pub record Early (t : Term) : Type 0 where
    pub source : Node
    pub origin : Origin K t source
    pub node : Node
    pub heard : Term
    pub at : At K node (recv heard)
    pub carries : Carries t heard
    pub not_after : ¬ Before K source node

  -- "14: variable of a non-originating atom in no event"
  pub record Missing (t : Term) : Type 0 where
    pub part : Term
    pub variable : Variable part
    pub occurs : Occurs part t
    pub in_no_event : ¬ InSomeEvent K part

-- Of one skeleton: what is right, and what comes first
module _ (D : Drawing) where
  pub record NonRight (a : ℕ) : Type 0 where
    pub present : ¬ Missing (meant D) (term D.rows a)
    pub uncarried : ¬ Carried (meant D) (term D.rows a)

  pub record UniqRight (a : ℕ) : Type 0 where
    pub one_strand : OneStrand (meant D) (term D.rows a)
    pub in_time : ¬ Early (meant D) (term D.rows a)

  pub record Right : Type 0 where
    pub acyclic : ¬ Cyclic (meant D)
    pub nons : (a : ℕ) → Memᴰ a D.skeleton.non → NonRight a
    pub uniqs : (a : ℕ) → Memᴰ a D.skeleton.uniq → UniqRight a

  -- the atom comes up: all that is judged before it is right
  pub record NonTurn (a : ℕ) : Type 0 where
    pub acyclic : ¬ Cyclic (meant D)
    pub listed : Memᴰ a D.skeleton.non
    pub lower : (b : ℕ) → Memᴰ b D.skeleton.non → b < a → NonRight b

  pub record UniqTurn (a : ℕ) : Type 0 where
    pub acyclic : ¬ Cyclic (meant D)
    pub nons : (b : ℕ) → Memᴰ b D.skeleton.non → NonRight b
    pub listed : Memᴰ a D.skeleton.uniq
    pub lower : (b : ℕ) → Memᴰ b D.skeleton.uniq → b < a → UniqRight b

  -- number and place of the skeleton's refusal
  pub data Fault : ℕ → ℕ → Type 0 where
    a_cycle : Cyclic (meant D) → Fault 10 0
    missing : {a : ℕ} → NonTurn a → Missing (meant D) (term D.rows a) → Fault 14 a
    carried : {a : ℕ} → NonTurn a → Carried (meant D) (term D.rows a) → Fault 11 a
    not_one : {a : ℕ} → UniqTurn a → ¬ OneStrand (meant D) (term D.rows a) → Fault 12 a
    early : {a : ℕ} → UniqTurn a → OneStrand (meant D) (term D.rows a) → Early (meant D) (term D.rows a) → Fault 13 a

-- Of a sheet that is read
pub data Accepting (s : Sheet) : Verdict → Type 0 where
  lacks : {i : ℕ} → Lacking s.rows i → ((j : ℕ) → j < i → ¬ Lacking s.rows j)
      → Accepting s (refused (record { number = 9; place = i; skeleton = 0 }))
  faulty : {k number place : ℕ} {D : Drawing} → ((i : ℕ) → ¬ Lacking s.rows i) → HasSkeleton k s D
      → ((j : ℕ) (E : Drawing) → j < k → HasSkeleton j s E → Right E)
      → Fault D number place
      → Accepting s (refused (record { number = number; place = place; skeleton = k }))
  right : ((i : ℕ) → ¬ Lacking s.rows i) → ((k : ℕ) (D : Drawing) → HasSkeleton k s D → Right D) → Accepting s (accepted s)
