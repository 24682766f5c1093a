-- Open receptions, node by node and strand by strand. Assumes nothing.
use Rattle.std.specs.Prelude.{Some, None}
use mathlib.Core.Path.{◌≡◌, refl, sym, ◌∙◌}
use mathlib.Core.Bool.{Bool, true, false, not, true≢false}
use mathlib.Core.List.{List}
use Prim.Native.Nat.{ℕ, ◌+◌, ◌≤◌, ◌<◌}
use native.Mathlib.Omega.{arith}
use native.Mathlib.Decide.{ℕ_discrete, dec_lt}
use borrow.Author.Count.{below_none, below_more}
use lib.ListN.{length}
use Rattle.terms.specs.declared.TermSet.{TermSet}
use Rattle.terms.specs.declared.Node as Code
use Rattle.terms.specs.Set.{mem}
use Rattle.model.specs.Term.{Term}
use Rattle.model.specs.Table.{term}
use Rattle.model.specs.Skeleton.{recv, message, on_message, Node, Skeleton, At}
use Rattle.model.specs.Derive.{Realized}
use Rattle.model.specs.Sheet.{meant}
use Rattle.model.specs.Answers.{Sooner}
use Rattle.model.specs.Says.{node_of}
use Rattle.theory.specs.Happenings.{at_means, at_meant}
use Rattle.theory.proofs.Answering.{only_reception, no_reception}
use Rattle.tables.specs.Layout.{strand_count, heights}
use Rattle.tables.specs.Tables.{byte, rows_in, skeleton_at}
use Rattle.origin.specs.Marked.{node}
use Rattle.tables.proofs.Nodes.{at_stands}
use Rattle.realized.specs.Before.{IsReached}
use Rattle.tables.specs.Drawn.{drawing, Drawn}
use Rattle.realized.specs.Opening.{Met, OpenIs, unmet, met, OpenOn, nowhere, here, FirstOpenIs, none, first}

-- A node

module _ {t : List ℕ} {b : ℕ} (d : Drawn t b) where
  closed : {n : Node} → ((u : ℕ) → ¬ At (skeleton_at t b) n (recv u)) → Met (meant (drawing t b)) n
  unfolding meant
  closed f = record { derivable = (no_reception (rows_in t) d.good (skeleton_at t b) d.on_table f).realized }

  pub nothing_received : {n : Node} → ((u : ℕ) → ¬ At (skeleton_at t b) n (recv u)) → OpenIs (meant (drawing t b)) n false
  nothing_received f = met (closed f)

  pub received : {n : Node} {u : ℕ} {r : TermSet} → At (skeleton_at t b) n (recv u) → IsReached (drawing t b) n r
      → OpenIs (meant (drawing t b)) n (not (mem r u))
  unfolding meant message on_message
  received {n} {u} {r} a s = go (mem r u) refl
    where
      inside : u < length (rows_in t)
      inside = d.on_table.messages n (recv u) a

      go : (x : Bool) → mem r u ≡ x → OpenIs (meant (drawing t b)) n (not x)
      go true e =
          met (record {
            derivable = λ v h. rw (only_reception (rows_in t) d.good (skeleton_at t b) d.on_table a h)
                at ((s.at u).0 e).1;
          })
      go false e =
          unmet (record {
            message = term (rows_in t) u;
            at = at_means (term (rows_in t)) (skeleton_at t b) a;
            unrealized = λ x. true≢false (sym ((s.at u).1 (inside, x)) ∙ e);
          })

-- A strand

-- nothing is open on strand s before position p
pub record ClosedBelow (K : Skeleton Term) (s p : ℕ) : Type 0 where
  pub each : (q : ℕ) → q < p → Met K (node s q)

module _ {K : Skeleton Term} {s : ℕ} where
  pub closed_none : ClosedBelow K s 0
  closed_none = record { each = below_none _ }

  pub closed_more : {p : ℕ} → ClosedBelow K s p → OpenIs K (node s p) false → ClosedBelow K s (p + 1)
  closed_more {p} w (met m) = record { each = below_more _ p w.each m }

  pub open_here : {p : ℕ} → ClosedBelow K s p → OpenIs K (node s p) true → OpenOn K s (Some p)
  open_here w (unmet u) = here u w.each

module _ {t : List ℕ} {b : ℕ} (d : Drawn t b) where
  pub closed_strand : {s p : ℕ} → ClosedBelow (meant (drawing t b)) s p → byte t (b + heights + s) ≤ p
      → OpenOn (meant (drawing t b)) s None
  closed_strand {s} {p} w l =
      nowhere (λ q. elim (dec_lt q p) [
        | yes h ↦ w.each q h
        | no h ↦ closed d (λ u a. omega (arith, (at_stands t b a).there.position))
      ])

-- All strands

-- nothing is open on the strands before s
pub record Passed (K : Skeleton Term) (s : ℕ) : Type 0 where
  pub each : (m : Node) → m.strand < s → Met K m

module _ {K : Skeleton Term} where
  pub passed_none : Passed K 0
  passed_none = record { each = λ m l. absurd (omega arith) }

  pub passed_more : {s : ℕ} → Passed K s → OpenOn K s None → Passed K (s + 1)
  passed_more {s} w (nowhere f) =
      record {
        each = λ m l. elim (ℕ_discrete m.strand s) [
          | yes e ↦ rw (← e) at (f m.position)
          | no ne ↦ w.each m (omega arith)
        ];
      }

  pub passed_first : {n : Code.Node} → Passed K n.strand.0 → OpenOn K n.strand.0 (Some n.position)
      → FirstOpenIs K (Some n)
  unfolding node_of
  passed_first {n} w (here u f) =
      first (record { message = u.message; at = u.at; unrealized = u.unrealized; first = λ m t l. (earlier m l).derivable t })
    where
      earlier : (m : Node) → Sooner m (node_of n) → Met K m
      earlier m (Sooner.strand l) = w.each m l
      earlier m (Sooner.position q l) = rw (← q) at (f m.position l)

module _ (t : List ℕ) (b : ℕ) where
  pub passed_all : {s : ℕ} → Passed (meant (drawing t b)) s → byte t (b + strand_count) ≤ s
      → FirstOpenIs (meant (drawing t b)) None
  unfolding Realized meant
  passed_all w l =
      none (λ n u a. let (e, c, q) = at_meant (term (rows_in t)) (skeleton_at t b) a in
      (w.each n (omega (arith, (at_stands t b c).there.strand))).derivable u a)
