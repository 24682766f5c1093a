-- What an answer yes or no says. Assumes nothing.
use mathlib.Core.Path.{◌≡◌, refl, sym}
use mathlib.Core.Bool.{Bool, true, false, true≢false, not, beq}
use mathlib.Core.Logic.{◌↔◌}
use Prim.Native.Nat.{ℕ}
use Rattle.terms.specs.declared.Node as Numbered
use Rattle.model.specs.Skeleton.{Node}
use Rattle.model.specs.Says.{node_of}
use Rattle.theory.specs.Tests.{both_true}
use borrow.Author.Tests.{eq-eqb, eqb-true}
use Rattle.std.proofs.Common.{ap, eqb, ◌&&◌, ◌≤◌, ◌<◌, List, length, get_or, MatchBool, arith}
use Rattle.std.specs.List.{AllWithin, HoldsAt}

pub granted : {P : Type 0} → P → (true ≡ true) ↔ P
granted p = (λ e. p, λ q. refl)

pub refused : {P : Type 0} → ¬ P → (false ≡ true) ↔ P
refused n = (λ e. absurd (true≢false (sym e)), λ p. absurd (n p))

-- two answers that differ, and two that do not
pub differ : (a b : Bool) → not (beq a b) ≡ true → ¬ (a ≡ b)
differ true true e q = true≢false (sym e)
differ true false e q = true≢false q
differ false true e q = true≢false (sym q)
differ false false e q = true≢false (sym e)

pub agree : (a b : Bool) → not (beq a b) ≡ false → a ≡ b
agree true true e = refl
agree true false e = absurd (true≢false e)
agree false true e = absurd (true≢false e)
agree false false e = refl

-- whether all of a map are below n
pub all_decides : (r : Bool) (xs : List ℕ) (n : ℕ)
    → MatchBool r (AllWithin (λ x. x < n) xs 0 (length xs)) ((k : ℕ) × (k < length xs) × HoldsAt (λ x. n ≤ x) xs k)
    → (r ≡ true) ↔ ((s : ℕ) → s < length xs → get_or xs s 0 < n)
all_decides true xs n h = granted (λ s l. h s 0 (omega arith) l)
all_decides false xs n (k, l, h) = refused (λ all. omega (arith, h 0, all k l))

-- nodes are the same where their numbers are
pub same_nodes : (m n : Numbered.Node)
    → ((eqb m.strand.0 n.strand.0 && eqb m.position n.position) ≡ true) ↔ (node_of m ≡ node_of n)
unfolding node_of
same_nodes m n = (
  λ e.
      let p = both_true (eqb m.strand.0 n.strand.0) _ e in
      let strand = eqb-true _ _ p.0 in
      let position = eqb-true _ _ p.1 in
      λ i. record { strand = strand i; position = position i },
  λ e.
      let strand = ap (λ (o : Node). o.strand) e in
      let position = ap (λ (o : Node). o.position) e in
      rw (eq-eqb m.strand.0 n.strand.0 strand, eq-eqb m.position n.position position),
)
