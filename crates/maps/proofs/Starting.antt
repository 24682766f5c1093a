-- The origins of a skeleton's unique atoms are on its strands, as rule 6's test asks. Assumes nothing.
use mathlib.Core.Path.{◌≡◌}
use mathlib.Core.Bool.{true}
use mathlib.Core.List.{List}
use Prim.Native.Nat.{ℕ, ◌<◌}
use native.Mathlib.Omega.{arith}
use lib.ListN.{length, get_or}
use Rattle.std.proofs.Common.{Option, Some, None}
use Rattle.terms.specs.declared.Node as Numbered
use Rattle.terms.specs.declared.TermSet.{TermSet}
use Rattle.terms.specs.Set.{mem, IsSetOf}
use Rattle.model.specs.Table.{Row, term}
use Rattle.model.specs.Skeleton.{Skeleton}
use Rattle.theory.specs.GoodTable.{Good}
use Rattle.theory.specs.Happenings.{at_meant}
use Rattle.theory.specs.Precedence as Precedence
use Rattle.theory.specs.OnTable.{OnTable, node_inside}
use Rattle.model.specs.Says.{node_of}
use Rattle.maps.specs.Rules.{IsOrigins}
use Rattle.maps.specs.Atoms.{Starts}

module _ {rows : List Row} (good : Good rows) {K : Skeleton ℕ} (ok : OnTable rows K) {from : TermSet}
    {origins : List (Option Numbered.Node)}
    (is : IsSetOf K.uniq from) (starts : IsOrigins rows K origins) where
  strand_low : (i : ℕ) → mem from i ≡ true → (n : Numbered.Node) → get_or origins i None ≡ Some n → n.strand.0 < length K.strands
  unfolding Precedence.code Precedence.Low node_of
  strand_low i m n e =
      let (k, o, c) = starts.at i ((is.at i).0 m) in
      let same : n ≡ k = cc in
      let (d, at, _) = at_meant (term rows) K o.at in
      let p : k.position < 16 = ok.positions (node_of k) d at in
      rw same (omega (arith, node_inside rows K ok at))

  pub origins_start : {map : List ℕ} → length map ≡ length K.strands → Starts from map origins
  origins_start full = record { strand = λ i m n e. rw full (strand_low i m n e) }
