-- Where the UO atoms originate, one after the other. Assumes nothing.
use mathlib.Core.Path.{◌≡◌, refl, sym, ap, ◌∙◌}
use mathlib.Core.Bool.{true, false, true≢false}
use mathlib.Core.List.Memᴰ
use mathlib.Core.List.{List}
use Prim.Native.Nat.{ℕ, ◌+◌, ◌<◌, ◌≤◌}
use native.Mathlib.Omega.{arith}
use lib.ListN.{length, get_or, set}
use lib.Seq.{get_or-set_same, get_or-set_other}
use borrow.Author.Count.{below_none, below_more}
use Rattle.std.specs.Prelude.{Option, Some, None}
use Rattle.terms.specs.declared.TermSet.{TermSet}
use Rattle.terms.specs.declared.Node as Code
use Rattle.terms.specs.Set.{mem, IsSetOf}
use Rattle.model.specs.Table.{Row, term}
use Rattle.model.specs.Skeleton.{Node, Skeleton, means}
use Rattle.model.specs.Says.{node_of}
use Rattle.theory.specs.GoodTable.{Good}
use Rattle.theory.specs.OnTable.{OnTable}
use Rattle.theory.specs.Skeletons.{IsSkeleton}
use Rattle.carry.specs.Sets.{IsCarriers}
use Rattle.origin.specs.declared.Origins.{Origins}
use Rattle.origin.specs.Marked.{OriginatesAs}
use Rattle.rules.proofs.Transfer.{origin_iff}
use Rattle.maps.specs.Rules.{IsOrigins}
use Rattle.mapping.specs.Origins.{StartsAt}

module _ {rows : List Row} (good : Good rows) {K : Skeleton ℕ} (ok : OnTable rows K) {a : ℕ} {marks : TermSet}
    (carriers : IsCarriers rows a marks) where
  abbrev Starts : Option Code.Node → Type 0
  Starts = StartsAt rows K a

  pub starts_at : {c : Code.Node} → OriginatesAs K (mem marks) (Origins.At c) → Starts (Some c)
  starts_at {c} (OriginatesAs.at f g) =
      record {
        at = λ m o only. (c, refl, only (node_of c) ((origin_iff rows good K ok a marks carriers (node_of c)).0 f));
      }

  pub starts_nowhere : {r : Option Code.Node} → OriginatesAs K (mem marks) Origins.Nowhere → Starts r
  starts_nowhere (OriginatesAs.nowhere f) =
      record { at = λ n o only. absurd (f n ((origin_iff rows good K ok a marks carriers n).1 o)) }

  pub starts_often : {r : Option Code.Node} → OriginatesAs K (mem marks) Origins.Several → Starts r
  starts_often (OriginatesAs.several {m} {n} f g h) =
      let origin = origin_iff rows good K ok a marks carriers in
      record {
        at = λ x o only.
            absurd (h (ap (λ (y : Node). y.strand) (only m ((origin m).0 f) ∙ sym (only n ((origin n).0 g)))));
      }

-- of the terms below n the origins of the members are known
pub record StartsBelow (rows : List Row) (K : Skeleton ℕ) (members : TermSet) (n : ℕ) (origins : List (Option Code.Node)) : Type 0 where
  pub at : (i : ℕ) → i < n → mem members i ≡ true → StartsAt rows K i (get_or origins i None)

module _ {rows : List Row} {K : Skeleton ℕ} {members : TermSet} where
  pub starts_none : {origins : List (Option Code.Node)} → StartsBelow rows K members 0 origins
  starts_none = record { at = below_none _ }

  pub starts_more : {n : ℕ} {r : Option Code.Node} {origins : List (Option Code.Node)} → n < length origins
      → StartsBelow rows K members n origins
      → StartsAt rows K n r
      → StartsBelow rows K members (n + 1) (set origins n r)
  starts_more {n} {r} {origins} h so_far this =
      record {
        at = below_more (λ i. mem members i ≡ true → StartsAt rows K i (get_or (set origins n r) i None)) n
            (λ i l. rw (get_or-set_other origins n i r None (λ e. omega arith)) (so_far.at i l))
            (λ m. rw (get_or-set_same origins n r None h) this);
      }

  -- a term that is no member
  pub starts_out : {n : ℕ} {origins : List (Option Code.Node)} → StartsBelow rows K members n origins → mem members n ≡ false
      → StartsBelow rows K members (n + 1) origins
  starts_out {n} {origins} so_far e =
      record {
        at = below_more (λ i. mem members i ≡ true → StartsAt rows K i (get_or origins i None)) n so_far.at
            (λ m. absurd (true≢false (sym m ∙ e)));
      }

  pub all_origins : {n : ℕ} {origins : List (Option Code.Node)} → OnTable rows K → IsSkeleton (means (term rows) K)
      → IsSetOf K.uniq members
      → length rows ≤ n
      → StartsBelow rows K members n origins
      → IsOrigins rows K origins
  unfolding means
  all_origins ok right atoms l so_far =
      record {
        at = λ i m.
            let listed = Memᴰ.map (term rows) m in
            let (n, o) = right.an_origin (term rows i) listed in
            let (c, is, e) = (so_far.at i (omega (arith, ok.uniqs i m)) ((atoms.at i).1 m)).at n o
            (λ x p. right.one_origin (term rows i) listed x n p o) in
            (c, rw e o, is);
      }
