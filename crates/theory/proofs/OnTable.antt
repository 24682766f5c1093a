-- Precedence of a skeleton on a table is decided.
use Rattle.std.specs.Prelude.{◌&&◌, ◌↔◌, ℕ, ◌*◌, ◌<◌}
use mathlib.Core.List.{List}
use Rattle.std.proofs.Math.Dec.{T}
use Rattle.std.proofs.Math.ListN.{length}
use Rattle.model.specs.Table.{Row}
use Rattle.model.specs.Skeleton.{Node, Skeleton}
use Rattle.model.specs.Events.{Before}
use Rattle.theory.specs.Tests.{both, pair_up}
use Rattle.theory.specs.ListTests.{some_found, finds_some}
use Rattle.theory.specs.Rules.{marked, reach}
use Rattle.theory.specs.Precedence.{code, Low, Leads, edges, to_rules, before_edge, edge_leads}
use Rattle.theory.proofs.Precedence.{leads_decided}
use Rattle.theory.specs.OnTable.{OnTable, same_node, same_node_true, same_node_refl, precedes, before}

module _ (rows : List Row) (K : Skeleton ℕ) (ok : OnTable rows K) where
  pub before_iff : (m n : Node) → Low n → code n < length K.strands * 16 → T (before K m n) ↔ Before K m n
  unfolding before precedes
  before_iff m n h k = (
    λ t.
        let ((a, b), l, q) = some_found (λ e. same_node e.0 m && precedes K n e) (edges K) t in
        let (x, y) = both (same_node a m) _ q in
        rw (same_node_true a m x) at (edge_leads K l ((decided b (ok.low (a, b) l).1).0 y)),
    λ p.
        let (o, l, q) = before_edge K p in
        finds_some (λ e. same_node e.0 m && precedes K n e) (edges K) l
        (pair_up (same_node m m) _ (same_node_refl m) ((decided o (ok.low (m, o) l).1).1 q)),
  )
    where
      decided : (o : Node) → Low o
          → T (marked (reach (to_rules (edges K) n) (length K.strands * 16)) (code o)) ↔ Leads (edges K) o n
      decided o l = leads_decided (edges K) ok.low n h (length K.strands * 16) (λ e m. (ok.nodes e m).0) k o l
