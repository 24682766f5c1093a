-- A skeleton on a table: all its numbers are in range; and the test of precedence there.
use Rattle.std.specs.Prelude.{◌≡◌, Bool, ◌&&◌, ℕ, ◌*◌, ◌<◌, eqb}
use mathlib.Core.List.{List, Memᴰ}
use native.Mathlib.Omega.{arith}
use Rattle.std.proofs.Math.Dec.{T, eqb_refl}
use Rattle.std.proofs.Common.{eqb→eq}
use Rattle.std.proofs.Math.ListN.{length}
use Rattle.model.specs.Lists.{some_of}
use Rattle.model.specs.Table.{Row}
use Rattle.model.specs.Skeleton.{Event, message, Node, Skeleton, At, trace, height}
use Rattle.theory.specs.Tests.{both, pair_up}
use Rattle.theory.specs.Each.{Each}
use Rattle.theory.specs.Places.{inside_list}
use Rattle.theory.specs.Rules.{marked, reach}
use Rattle.theory.specs.Precedence.{a_strand, code, Low, Edge, edges, to_rules}

pub record OnTable (rows : List Row) (K : Skeleton ℕ) : Type 0 where
  pub messages : (n : Node) (e : Event ℕ) → At K n e → message e < length rows
  pub nons : (t : ℕ) → Memᴰ t K.non → t < length rows
  pub uniqs : (t : ℕ) → Memᴰ t K.uniq → t < length rows
  pub positions : (n : Node) (e : Event ℕ) → At K n e → Low n
  pub low : Each (λ e. Low e.0 × Low e.1) (edges K)
  pub nodes : Each (λ e. (code e.0 < length K.strands * 16) × (code e.1 < length K.strands * 16)) (edges K)

unfoldable pub same_node : Node → Node → Bool
same_node m n = eqb m.strand n.strand && eqb m.position n.position

pub same_node_true : (m n : Node) → T (same_node m n) → m ≡ n
unfolding same_node
same_node_true m n h =
    let (a, b) = both (eqb m.strand n.strand) _ h in
    let p : m.strand ≡ n.strand = eqb→eq _ _ a in
    let q : m.position ≡ n.position = eqb→eq _ _ b in
    λ i. record { strand = p i; position = q i }

pub same_node_refl : (n : Node) → T (same_node n n)
unfolding same_node
same_node_refl n =
    pair_up (eqb n.strand n.strand) (eqb n.position n.position) (eqb_refl n.strand) (eqb_refl n.position)

-- Precedence
unfoldable pub precedes : Skeleton ℕ → Node → Edge → Bool
unfolding reach to_rules edges code same_node
precedes K n e = marked (reach (to_rules (edges K) n) (length K.strands * 16)) (code e.1)

unfoldable pub before : Skeleton ℕ → Node → Node → Bool
unfolding some_of precedes same_node edges
before K m n = some_of (λ e. same_node e.0 m && precedes K n e) (edges K)

module _ (rows : List Row) (K : Skeleton ℕ) (ok : OnTable rows K) where
  pub node_inside : {n : Node} {e : Event ℕ} → At K n e → code n < length K.strands * 16
  unfolding code Low
  node_inside {n} {e} a =
      let p : n.position < 16 = ok.positions n e a in
      let h : n.position < height K n.strand = inside_list (trace K n.strand) n.position a.is in
      let s : n.strand < length K.strands = a_strand K n.strand (omega arith) in
      omega arith
