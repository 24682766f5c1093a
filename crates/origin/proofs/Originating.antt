-- Origins, strand by strand: at most one on each, and where the next one is. Assumes nothing.
use mathlib.Core.Path.{refl, ◌≡◌, sym, ◌∙◌}
use mathlib.Core.Bool.{Bool, true, true≢false}
use mathlib.Core.List.{List}
use Prim.Native.Nat.{ℕ, ◌+◌, ◌≤◌, ◌<◌}
use native.Mathlib.Omega.{arith}
use native.Mathlib.Decide.{ℕ_discrete, dec_lt}
use Rattle.terms.specs.declared.Node as Code
use Rattle.model.specs.Skeleton.{Event, message, Node, Skeleton, At}
use Rattle.theory.specs.Skeletons.{at_one}
use Rattle.model.specs.Says.{node_of}
use Rattle.tables.specs.Layout.{strand_count}
use Rattle.tables.specs.Tables.{byte, skeleton_at, Block}
use Rattle.origin.specs.declared.Appears.{Appears}
use Rattle.origin.specs.declared.Origins.{Origins}
use Rattle.std.specs.Prelude.{Some, None}
use Rattle.origin.specs.Marked.{node, NoneBefore, FirstSent, FirstReceived, AppearsAs, sent, received, OriginatesAs}
use Rattle.origin.specs.Passing.{NoneFrom, NextIs, here}
use Rattle.tables.proofs.Nodes.{at_stands, strand_low}

module _ (K : Skeleton ℕ) (marks : ℕ → Bool) where
  -- a marked event is not before a node before which nothing is marked
  not_before : (s p q : ℕ) {e : Event ℕ} → NoneBefore K marks (node s p) → At K (node s q) e → marks (message e) ≡ true → p ≤ q
  not_before s p q {e} none a m =
      elim (dec_lt q p) [ yes l ↦ absurd (true≢false (sym m ∙ none q e l a)) | no l ↦ omega arith ]

module _ {K : Skeleton ℕ} {marks : ℕ → Bool} where
  same_place : (s p q : ℕ) → FirstSent K marks (node s p) → FirstSent K marks (node s q) → p ≡ q
  unfolding message
  same_place s p q f g =
      let l = not_before K marks s p q f.first g.at g.marked in
      let r = not_before K marks s q p g.first f.at f.marked in omega arith

  -- a strand has one origin at most
  pub one_origin : (m n : Node) → FirstSent K marks m → FirstSent K marks n → m.strand ≡ n.strand → m ≡ n
  one_origin m n f g e =
      let h : FirstSent K marks (node n.strand m.position) = rw (← e) f in
      let z : m.position ≡ n.position = same_place n.strand m.position n.position h g in
      λ i. record { strand = e i; position = z i }

  -- not both a send and a reception come first
  not_both : (s p q : ℕ) → FirstReceived K marks (node s p) → ¬ FirstSent K marks (node s q)
  unfolding message
  not_both s p q f g =
      let l = not_before K marks s p q f.first g.at g.marked in
      let r = not_before K marks s q p g.first f.at f.marked in
      let e : p ≡ q = omega arith in
      let a = at_one K (rw e at f.at) g.at in
      let z : ◌≡◌ {A = ℕ} 0 1 = cc in omega arith

  -- an answer that is not `Sent` says that the strand has no origin
  pub not_sent : {s : ℕ} (r : Appears) → ((p : ℕ) → r ≡ Appears.Sent p → ⊥) → AppearsAs K marks s r
      → (q : ℕ) → ¬ FirstSent K marks (node s q)
  unfolding message
  not_sent r k (AppearsAs.nowhere f) q g = true≢false (sym g.marked ∙ f q _ g.at)
  not_sent r k (sent f) q g = k _ refl
  not_sent r k (received f) q g = not_both _ _ q f g

  pub sent_first : {s p : ℕ} → AppearsAs K marks s (Appears.Sent p) → FirstSent K marks (node s p)
  sent_first (sent f) = f

-- From the strands passed to the next origin

-- there is no origin on the strands from a to n
pub record Missing (K : Skeleton ℕ) (marks : ℕ → Bool) (a n : ℕ) : Type 0 where
  pub none : NoneFrom K marks a n

module _ {K : Skeleton ℕ} {marks : ℕ → Bool} {a : ℕ} where
  pub missing_none : Missing K marks a a
  missing_none = record { none = λ m l h f. omega arith }

  pub missing_more : {s : ℕ} → Missing K marks a s → ((q : ℕ) → ¬ FirstSent K marks (node s q)) → Missing K marks a (s + 1)
  missing_more {s} w out =
      record {
        none = λ m l h f. elim (ℕ_discrete m.strand s) [
          | yes e ↦ out m.position (rw (← e) f)
          | no ne ↦ w.none m l (omega arith) f
        ];
      }

  pub next_here : {n : Code.Node} → a ≤ n.strand.0 → Missing K marks a n.strand.0
      → AppearsAs K marks n.strand.0 (Appears.Sent n.position) → NextIs K marks a (Some n)
  unfolding node_of
  next_here l w h = here l (sent_first h) w.none

module _ {marks : ℕ → Bool} {a : ℕ} where
  pub next_nowhere : (t : List ℕ) (b : ℕ) {s : ℕ} → Missing (skeleton_at t b) marks a s → byte t (b + strand_count) ≤ s
      → NextIs (skeleton_at t b) marks a None
  next_nowhere t b w l = NextIs.nowhere (λ m h f. w.none m h (omega (arith, (at_stands t b f.at).there.strand)) f)

  pub origin_low : {t : List ℕ} {b : ℕ} {n : Code.Node} → Block t b
      → NextIs (skeleton_at t b) marks a (Some n) → n.strand.0 < 6
  unfolding node_of
  origin_low block (here l f w) = strand_low block f.at

-- From the next origins to all

module _ {K : Skeleton ℕ} {marks : ℕ → Bool} where
  pub none_at_all : NextIs K marks 0 None → OriginatesAs K marks Origins.Nowhere
  none_at_all (NextIs.nowhere none) = OriginatesAs.nowhere (λ m f. none m (omega arith) f)

  pub one_alone : {n : Code.Node} → NextIs K marks 0 (Some n) → NextIs K marks (n.strand.0 + 1) None
      → OriginatesAs K marks (Origins.At n)
  unfolding node_of
  one_alone {n} (here l f w) (NextIs.nowhere none) = OriginatesAs.at f (λ m g. one_origin m (node_of n) g f (same m g))
    where
      same : (m : Node) → FirstSent K marks m → m.strand ≡ n.strand.0
      same m g =
          elim (dec_lt m.strand n.strand.0) [
            | yes h ↦ absurd (w m (omega arith) h g)
            | no h ↦ elim (ℕ_discrete m.strand n.strand.0) [ yes e ↦ e | no ne ↦ absurd (none m (omega arith) g) ]
          ]

  pub two_apart : {n k : Code.Node} → NextIs K marks 0 (Some n) → NextIs K marks (n.strand.0 + 1) (Some k)
      → OriginatesAs K marks Origins.Several
  unfolding node_of
  two_apart (here l f w) (here h g v) = OriginatesAs.several f g (λ e. omega arith)
