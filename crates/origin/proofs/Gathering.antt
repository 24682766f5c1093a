-- The messages of the events, node by node. Assumes nothing.
use mathlib.Core.Path.{◌≡◌, refl, sym, ◌∙◌}
use mathlib.Core.Bool.{Bool, true, false, true≢false, ◌||◌, or-true}
use mathlib.Core.List.{List}
use mathlib.Core.Logic.{◌⊎◌, inl, inr, ⊎_elim}
use Prim.Native.Nat.{ℕ, ◌+◌, ◌*◌, ◌≤◌, ◌<◌}
use native.Mathlib.Omega.{arith}
use native.Mathlib.Decide.{dec_lt}
use lib.Dec.{eqb}
use borrow.Author.Tests.{eq-eqb, eqb-true}
use Rattle.terms.specs.declared.TermSet.{TermSet}
use Rattle.terms.specs.Set.{mem}
use Rattle.model.specs.Skeleton.{Event, message, Node, At}
use Rattle.tables.specs.Layout.{strand_count, heights}
use Rattle.tables.specs.Tables.{byte, skeleton_at, Block}
use Rattle.origin.specs.Marked.{node, IsMessages}
use Rattle.tables.specs.Nodes.{message_at, There}
use Rattle.origin.specs.Passing.{Gathered}
use Rattle.tables.proofs.Nodes.{stands_at, at_stands, said_at, position_low}

either : (a b : Bool) → (a || b) ≡ true → (a ≡ true) ⊎ (b ≡ true)
either true b e = inl refl
either false b e = inr e

module _ {t : List ℕ} {b : ℕ} (block : Block t b) where
  pub gathered_none : {set : TermSet} → ((k : ℕ) → mem set k ≡ false) → Gathered (skeleton_at t b) 0 0 set
  gathered_none f =
      record { has = λ n e l a. absurd (omega arith); only = λ i h. absurd (true≢false (sym h ∙ f i)) }

  pub gathered_more : {s p m : ℕ} {set r : TermSet} → Gathered (skeleton_at t b) s p set → There t b (node s p)
      → m ≡ message_at t b (node s p) → ((k : ℕ) → mem r k ≡ (mem set k || eqb k m)) → Gathered (skeleton_at t b) s (p + 1) r
  gathered_more {s} {p} {m} {set} {r} g h z more = record { has = has; only = only }
    where
      has : (n : Node) (e : Event ℕ) → 16 * n.strand + n.position < 16 * s + (p + 1) → At (skeleton_at t b) n e
          → mem r (message e) ≡ true
      has n e l a =
          elim (dec_lt (16 * n.strand + n.position) (16 * s + p)) [
            | yes before ↦ more (message e) ∙ rw (g.has n e before a)
            | no here ↦ let short : p < 16 = omega (arith, h.position, block.low s h.strand) in
                let strand : n.strand ≡ s = omega (arith, position_low block a) in
                let position : n.position ≡ p = omega (arith, position_low block a) in
                let y : message e ≡ m = rw (strand, position) at (said_at t b a) ∙ sym z in
                more (message e) ∙ rw (eq-eqb (message e) m y) (or-true (mem set (message e)))
          ]

      only : (i : ℕ) → mem r i ≡ true → (n : Node) × (e : Event ℕ) × At (skeleton_at t b) n e × (message e ≡ i)
      only i q =
          ⊎_elim
          (g.only i)
          (λ y. let a = stands_at t b (record { there = h; is = refl }) in
          (node s p, _, a, said_at t b a ∙ (sym z ∙ sym (eqb-true i m y))))
          (either (mem set i) (eqb i m) (sym (more i) ∙ q))

  pub gathered_strand : {s p : ℕ} {set : TermSet} → Gathered (skeleton_at t b) s p set → byte t (b + heights + s) ≤ p
      → Gathered (skeleton_at t b) (s + 1) 0 set
  gathered_strand {s} {p} {set} g l = record { has = has; only = g.only }
    where
      has : (n : Node) (e : Event ℕ) → 16 * n.strand + n.position < 16 * (s + 1) + 0 → At (skeleton_at t b) n e
          → mem set (message e) ≡ true
      has n e h a =
          elim (dec_lt (16 * n.strand + n.position) (16 * s + p)) [
            | yes before ↦ g.has n e before a
            | no past ↦ let strand : n.strand ≡ s = omega (arith, position_low block a) in
                let position : n.position < byte t (b + heights + s) = rw strand at (at_stands t b a).there.position in
                absurd (omega arith)
          ]

  pub gathered_all : {s : ℕ} {set : TermSet} → Gathered (skeleton_at t b) s 0 set → byte t (b + strand_count) ≤ s
      → IsMessages (skeleton_at t b) set
  gathered_all g l =
      record { has = λ n e a. g.has n e (omega (arith, position_low block a, (at_stands t b a).there.strand)) a; only = g.only }
