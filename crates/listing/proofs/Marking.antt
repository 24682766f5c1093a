-- Whether a candidate is a map, and the candidates that are marked so far. Assumes nothing.
use mathlib.Core.Path.{◌≡◌, refl, sym, ◌∙◌}
use mathlib.Core.Bool.{Bool, true, false, ◌||◌, or-true, or-false, true≢false}
use mathlib.Core.Logic.{◌↔◌}
use mathlib.Core.List.{List, ◌++◌}
use Prim.Native.Nat.{ℕ, ◌+◌, ◌<◌}
use native.Mathlib.Decide.{ℕ_discrete}
use native.Mathlib.Omega.{arith}
use borrow.Author.Tests.{eq-eqb, ne_eqb}
use lib.Dec.{eqb}
use lib.ListN.{take, drop}
use lib.Seq.{take_at}
use Rattle.model.specs.Table.{Row, term}
use Rattle.model.specs.Skeleton.{Skeleton, means}
use Rattle.model.specs.Maps.{IsStrandMap}
use Rattle.theory.specs.NoSecond.{upto_less}
use Rattle.list.specs.Candidates.{digits}
use Rattle.list.specs.Found.{marked}
use Rattle.list.specs.declared.Found.{Found}
use Rattle.std.specs.Prelude.{Result, Ok, Err, is_ok}
use Rattle.model.specs.declared.Rule.{Rule}
use Rattle.list.proofs.Numbered.{digits_length}
use Rattle.mapping.specs.Judged.{JudgedAs}
use Rattle.listing.specs.Found.{IsMap, MarkedBelow}

-- no rule is broken exactly when the bytes are a map
pub judged_ok : {rows : List Row} {A B : Skeleton ℕ} {map images : List ℕ} {u : Unit {0}} → JudgedAs rows A B map images (Ok u)
    → IsStrandMap (means (term rows) A) (means (term rows) B) map
judged_ok (JudgedAs.holds {σ} k m) = record { σ = σ; kept = k }

pub judged_err : {rows : List Row} {A B : Skeleton ℕ} {map images : List ℕ} {rule : Rule} → JudgedAs rows A B map images (Err rule)
    → ¬ IsStrandMap (means (term rows) A) (means (term rows) B) map
judged_err (JudgedAs.broken b) u = b.breaks (upto_less _ _ _ _ 6 b.rule u)

pub judged_map : {rows : List Row} {A B : Skeleton ℕ} {map images : List ℕ} (r : Result (Unit {0}) Rule) → JudgedAs rows A B map images r
    → (is_ok r ≡ true) ↔ IsStrandMap (means (term rows) A) (means (term rows) B) map
judged_map (Ok u) j = (λ e. judged_ok j, λ m. refl)
judged_map (Err rule) j = (λ e. absurd (true≢false (sym e)), λ m. absurd (judged_err j m))

-- the digits are the first n bytes
pub digits_first : (n base c : ℕ) (old : List ℕ) {new : List ℕ} → new ≡ digits n base c ++ drop n old → take n new ≡ digits n base c
digits_first n base c old e = rw e (take_at (digits n base c) (drop n old) n (digits_length n base c))

module _ {t : List ℕ} {a b : ℕ} where
  pub marked_none : {found : Found} → ((k : ℕ) → marked found k ≡ false) → MarkedBelow t a b 0 found
  marked_none none = record { at = λ k. (λ e. absurd (true≢false (sym e ∙ none k)), λ h. absurd (omega (arith, h.0))) }

  pub marked_out : {c : ℕ} {found : Found} {r : Bool} → MarkedBelow t a b c found → (r ≡ true) ↔ IsMap t a b c → r ≡ false
      → MarkedBelow t a b (c + 1) found
  marked_out {c} m is e =
      record {
        at = λ k. (
          λ h. let (l, i) = (m.at k).0 h in (omega arith, i),
          λ h. (m.at k).1 (below k h.0 h.1, h.1),
        );
      }
    where
      below : (k : ℕ) → k < c + 1 → IsMap t a b k → k < c
      below k l i =
          elim (ℕ_discrete k c) [
            | yes q ↦ absurd (true≢false (sym (is.1 (rw q at i)) ∙ e))
            | no d ↦ omega arith
          ]

  pub marked_in : {c : ℕ} {found next : Found} → MarkedBelow t a b c found → IsMap t a b c
      → ((k : ℕ) → marked next k ≡ (marked found k || eqb k c))
      → MarkedBelow t a b (c + 1) next
  marked_in {c} {found} {next} m is with_it = record { at = λ k. go k (ℕ_discrete k c) }
    where
      go : (k : ℕ) → Dec (k ≡ c) → (marked next k ≡ true) ↔ ((k < c + 1) × IsMap t a b k)
      go k (yes e) = (λ h. (omega arith, rw e is), λ h. with_it k ∙ rw (eq-eqb k c e) (or-true (marked found k)))
      go k (no d) =
          let same : marked next k ≡ marked found k = with_it k ∙ rw (ne_eqb k c d) (or-false (marked found k)) in
          (λ h. let (l, i) = (m.at k).0 (sym same ∙ h) in (omega arith, i), λ h. same ∙ (m.at k).1 (omega (arith, h.0, d), h.1))
