-- What the sets say of an NO atom: whether a variable of it is missing, and whether it is carried. Assumes nothing.
use mathlib.Core.Path.{◌≡◌, refl, sym, ◌∙◌}
use mathlib.Core.Bool.{Bool, true, false, not, ◌&&◌, true≢false}
use mathlib.Core.List.{List}
use mathlib.Core.Logic.{◌↔◌}
use Prim.Native.Nat.{ℕ, ◌+◌, ◌<◌}
use native.Mathlib.Omega.{arith}
use lib.Dec.{eqb}
use lib.ListN.{length}
use borrow.Author.Tests.{not-true, ne_eqb}
use Rattle.std.specs.Prelude.{Ok, Err}
use Rattle.terms.specs.declared.TermSet.{TermSet}
use Rattle.model.specs.declared.Reason.{Reason}
use Rattle.terms.specs.Set.{mem}
use Rattle.model.specs.Table.{term}
use Rattle.model.specs.Sheet.{meant}
use Rattle.model.specs.Accepting.{Carried, Missing}
use Rattle.theory.specs.Tests.{bool_false, both_true}
use Rattle.theory.specs.Deciding.{Below, dec_below}
use Rattle.tables.specs.Tables.{byte, rows_in, skeleton_at}
use Rattle.carry.specs.Sets.{EndsBy, IsParts}
use Rattle.carry.proofs.Rows.{inside_in}
use Rattle.tables.specs.Drawn.{drawing, Drawn}
use Rattle.rules.specs.Judged.{Heard, NonAs}
use Rattle.rules.proofs.Transfer.{carried_iff, lost_iff}

true_test : (b : Bool) → Dec (b ≡ true)
true_test true = yes refl
true_test false = no (λ e. true≢false (sym e))

-- a set whose numbers are below n, with an answer whether it is empty
module _ (s : TermSet) (e : Bool) (n : ℕ) (low : (k : ℕ) → mem s k ≡ true → k < n)
    (empty : (e ≡ true) ↔ ((k : ℕ) → mem s k ≡ false)) where
  has_some : not e ≡ true → Below (λ k. mem s k ≡ true) n
  has_some h =
      elim (dec_below (λ k. mem s k ≡ true) n (λ k l. true_test (mem s k))) [
        | yes w ↦ w
        | no none ↦
            let all = empty.1 (λ k. bool_false (mem s k) (λ m. none (record { which = k; inside = low k m; holds = m }))) in
            absurd (true≢false (sym all ∙ not-true e h))
      ]

  some_has : (k : ℕ) → mem s k ≡ true → not e ≡ true
  some_has k m = go e refl
    where
      go : (b : Bool) → e ≡ b → not b ≡ true
      go false q = refl
      go true q = absurd (true≢false (sym m ∙ empty.0 q k))

-- a set of one term ends by the next
pub one_ends : (n a : ℕ) (one : TermSet) → ((k : ℕ) → mem one k ≡ eqb k a) → EndsBy n (a + 1) one
one_ends n a one alone = record { none = λ k l h. alone k ∙ ne_eqb k a (λ e. omega arith) }

module _ {t : List ℕ} {b : ℕ} {C H X : TermSet} (ready : Drawn t b) (heard : Heard t b C H X) (a : ℕ) (inside : a < byte t 600) where
  -- F is what of the parts of the atom is a variable and not in H, and e says whether it is empty
  module _ (one P D F : TermSet) (e : Bool) (alone : (k : ℕ) → mem one k ≡ eqb k a)
      (parts : IsParts (rows_in t) one P)
      (common : (k : ℕ) → mem D k ≡ (mem P k && mem X k)) (minus : (k : ℕ) → mem F k ≡ (mem D k && not (mem H k)))
      (empty : (e ≡ true) ↔ ((k : ℕ) → mem F k ≡ false)) where
    in_common : (k : ℕ) → mem F k ≡ true → (mem D k ≡ true) × (not (mem H k) ≡ true)
    in_common k m = both_true (mem D k) (not (mem H k)) (sym (minus k) ∙ m)

    in_parts : (k : ℕ) → mem F k ≡ true → (mem P k ≡ true) × (mem X k ≡ true)
    in_parts k m = both_true (mem P k) (mem X k) (sym (common k) ∙ (in_common k m).0)

    in_terms : (k : ℕ) → mem F k ≡ true → k < length (rows_in t)
    in_terms k m = ((parts.shows.at k).0 (in_parts k m).0).0

    left_over : (k : ℕ) → mem P k ≡ true → mem X k ≡ true → mem H k ≡ false → mem F k ≡ true
    left_over k p x h = minus k ∙ rw (common k, p, x, h)

    pub missing_iff : (not e ≡ true) ↔ Missing (meant (drawing t b)) (term (rows_in t) a)
    unfolding meant
    missing_iff =
        let same = lost_iff (rows_in t) ready.good (skeleton_at t b) ready.on_table heard.said heard.messages a
        (inside_in t inside) one P X H alone parts heard.variables heard.heard in (
          λ h. let w = has_some F e (length (rows_in t)) in_terms empty h in
              let k = w.which in
              let m = w.holds in
              let unheard : mem H k ≡ false = not-true (mem H k) (in_common k m).1 in
              same.0 (record { which = k; part = (in_parts k m).0; variable = (in_parts k m).1; unheard = unheard }),
          λ m. let l = same.1 m in
              some_has F e (length (rows_in t)) in_terms empty l.which
              (left_over l.which l.part l.variable l.unheard),
        )

  -- The refusal that the atom is due

  is_carried : (mem C a ≡ true) ↔ Carried (meant (drawing t b)) (term (rows_in t) a)
  unfolding meant
  is_carried =
      carried_iff (rows_in t) ready.good (skeleton_at t b) ready.on_table a (inside_in t inside) C heard.said
      heard.carried heard.messages

  pub non_carried : mem C a ≡ true → NonAs (drawing t b) a (Err Reason.NonCarried)
  non_carried h = NonAs.carried (is_carried.0 h)

  pub non_fine : {q : Bool} → (q ≡ true) ↔ Missing (meant (drawing t b)) (term (rows_in t) a) → q ≡ false → mem C a ≡ false
      → NonAs (drawing t b) a (Ok tt)
  non_fine missing present uncarried =
      NonAs.fine (record {
        present = λ w. true≢false (sym (missing.1 w) ∙ present);
        uncarried = λ w. true≢false (sym (is_carried.1 w) ∙ uncarried);
      })
