-- What is sent before a node, node by node. Assumes nothing.
use Rattle.std.specs.Prelude.{Option, Some}
use mathlib.Core.Path.{◌≡◌, refl, sym, ◌∙◌}
use mathlib.Core.Bool.{true, false, true≢false, ◌||◌}
use mathlib.Core.List.{List}
use mathlib.Core.Logic.{inl, inr, ⊎_elim, ⊎_map}
use Prim.Native.Nat.{ℕ, ◌+◌, ◌*◌, ◌≤◌, ◌<◌}
use native.Mathlib.Omega.{arith}
use native.Mathlib.Decide.{dec_lt}
use lib.Dec.{eqb}
use Rattle.terms.specs.declared.Term.{Term}
use Rattle.terms.specs.declared.TermSet.{TermSet}
use Rattle.terms.specs.Set.{mem}
use Rattle.model.specs.Skeleton.{send, Node, Skeleton, At}
use Rattle.theory.specs.Skeletons.{at_one}
use Rattle.tables.specs.Layout.{strand_count, heights}
use Rattle.tables.specs.Tables.{byte, skeleton_at, Block}
use Rattle.order.specs.Precedence.{code}
use Rattle.tables.specs.declared.blocks.Event as Answer
use Rattle.origin.specs.Marked.{node}
use Rattle.tables.specs.Nodes.{EventIs, nothing, sends, receives}
use Rattle.tables.proofs.Nodes.{at_stands, position_low}
use Rattle.realized.specs.Before.{IsSent}
use Rattle.realized.specs.Passing.{Sends, Takes, Gathered}
use Rattle.terms.proofs.Listed.{with_iff}

-- What the answer says of sends

module _ {K : Skeleton ℕ} {n : Node} where
  pub is_sent : {t : Term} → EventIs K n (Some (Answer.Event.Send t)) → At K n (send t.0)
  is_sent (sends a) = a

  -- an answer that is not a send says that none is there
  pub not_sent : (r : Option Answer.Event) → ((t : Term) → r ≡ Some (Answer.Event.Send t) → ⊥) → EventIs K n r → (m : ℕ)
      → ¬ At K n (send m)
  not_sent r k (nothing none) m a = none (send m) a
  not_sent r k (receives s) m a = let e = at_one K s a in let z : ◌≡◌ {A = ℕ} 0 1 = cc in omega arith
  not_sent r k (sends s) m a = k _ refl

-- A node more

module _ {K : Skeleton ℕ} {n m : Node} where
  pub takes_none : {set : TermSet} → ((i : ℕ) → ¬ Sends K n m i) → Takes K n m set set
  takes_none none = record { at = λ i. (inl, ⊎_elim (λ h. h) (λ s. absurd (none i s))) }

  one_said : {i j : ℕ} → Sends K n m i → Sends K n m j → i ≡ j
  one_said s r = let e = at_one K s.at r.at in cc

  pub takes_sent : {t : ℕ} {set r : TermSet} → Sends K n m t → ((k : ℕ) → mem r k ≡ (mem set k || eqb k t)) → Takes K n m set r
  takes_sent {t} {set} {r} s more =
      record {
        at = λ i. (
          λ h. ⊎_map (λ x. x) (λ e. rw e s) ((with_iff (mem set i) i t (more i)).0 h),
          λ c. (with_iff (mem set i) i t (more i)).1 (⊎_map (λ x. x) (λ x. one_said x s) c),
        );
      }

-- All nodes

module _ {K : Skeleton ℕ} {n : Node} where
  pub gathered_none : {set : TermSet} → ((k : ℕ) → mem set k ≡ false) → Gathered K n 0 0 set
  gathered_none f =
      record { has = λ m i l x. absurd (omega arith); only = λ i h. absurd (true≢false (sym h ∙ f i)) }

module _ {t : List ℕ} {b : ℕ} (block : Block t b) {n : Node} where
  pub gathered_more : {s p : ℕ} {set r : TermSet} → Gathered (skeleton_at t b) n s p set → p < 16
      → Takes (skeleton_at t b) n (node s p) set r → Gathered (skeleton_at t b) n s (p + 1) r
  gathered_more {s} {p} {set} {r} g short more = record { has = has; only = only }
    where
      has : (m : Node) (i : ℕ) → code m < 16 * s + (p + 1) → Sends (skeleton_at t b) n m i → mem r i ≡ true
      has m i l x =
          elim (dec_lt (code m) (16 * s + p)) [
            | yes sooner ↦ (more.at i).1 (inl (g.has m i sooner x))
            | no here ↦ let strand : m.strand ≡ s = omega (arith, position_low block x.at) in
                let position : m.position ≡ p = omega (arith, position_low block x.at) in
                let same : m ≡ node s p = λ j. record { strand = strand j; position = position j } in
                (more.at i).1 (inr (rw same at x))
          ]

      only : (i : ℕ) → mem r i ≡ true → (m : Node) × Sends (skeleton_at t b) n m i
      only i q = ⊎_elim (g.only i) (λ x. (node s p, x)) ((more.at i).0 q)

  pub gathered_strand : {s p : ℕ} {set : TermSet} → Gathered (skeleton_at t b) n s p set → byte t (b + heights + s) ≤ p
      → Gathered (skeleton_at t b) n (s + 1) 0 set
  gathered_strand {s} {p} {set} g l = record { has = has; only = g.only }
    where
      has : (m : Node) (i : ℕ) → code m < 16 * (s + 1) + 0 → Sends (skeleton_at t b) n m i → mem set i ≡ true
      has m i h x =
          elim (dec_lt (code m) (16 * s + p)) [
            | yes sooner ↦ g.has m i sooner x
            | no past ↦ let strand : m.strand ≡ s = omega (arith, position_low block x.at) in
                let position : m.position < byte t (b + heights + s) = rw strand at (at_stands t b x.at).there.position in
                absurd (omega arith)
          ]

  pub gathered_all : {s : ℕ} {set : TermSet} → Gathered (skeleton_at t b) n s 0 set → byte t (b + strand_count) ≤ s
      → IsSent (skeleton_at t b) n set
  gathered_all g l =
      record {
        at = λ i. (
          λ h. let (m, x) = g.only i h in (m, x.at, x.before),
          λ (m, a, x). g.has m i (omega (arith, position_low block a, (at_stands t b a).there.strand))
              (record { at = a; before = x }),
        );
      }
