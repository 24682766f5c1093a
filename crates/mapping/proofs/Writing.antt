-- The bytes that the answer writes, one after the other. Assumes nothing.
use mathlib.Core.Path.{◌≡◌, refl, sym, ◌∙◌}
use mathlib.Core.Bool.{Bool, true, false}
use mathlib.Core.List.{List, ◌∷◌, ◌++◌}
use Prim.Native.Nat.{ℕ, suc, ◌+◌, ◌<◌}
use native.Mathlib.Numerals.{add-one}
use native.Mathlib.Omega.{arith}
use lib.ListN.{length, get_or, set, drop}
use lib.Seq.{drop-cons, append_snoc, set-append_seam}
use Rattle.terms.specs.declared.TermSet.{TermSet}
use Rattle.terms.specs.Set.{mem}
use Rattle.model.specs.Lists.{upto}
use Rattle.model.specs.Table.{Row, term}
use Rattle.model.specs.Subst.{Subst}
use Rattle.model.specs.Skeleton.{Skeleton, means}
use Rattle.model.specs.Maps.{Images}
use Rattle.model.specs.Answers.{over}
use Rattle.theory.specs.Tests.{bool_false}
use Rattle.theory.specs.Upto.{length-upto, upto_at}
use Rattle.theory.proofs.Faults.{variable_test}
use Rattle.tables.specs.Tables.{byte}
use Rattle.carry.specs.Sets.{IsVariables}
use Rattle.matching.specs.Matches.{Matches, Takes}
use Rattle.mapping.specs.Written.{shown, Written}

pub over_none : (f : ℕ → ℕ) (lent : List ℕ) → lent ≡ over (upto 0 f) lent
unfolding over upto
over_none f lent = refl

pub over_more : (f : ℕ → ℕ) (lent images : List ℕ) (i r : ℕ) → i < length lent → images ≡ over (upto i f) lent → r ≡ f i
    → set images i r ≡ over (upto (i + 1) f) lent
unfolding over upto
over_more f lent images i r h e q =
    let l : length (upto i f) ≡ i = length-upto i f in
    let m : length (upto (suc i) f) ≡ suc i = length-upto (suc i) f in
    let d : drop i lent ≡ get_or lent i 0 ∷ drop (suc i) lent = drop-cons lent i 0 h in
    let a : images ≡ upto i f ++ get_or lent i 0 ∷ drop (suc i) lent = e ∙ rw (l, d) refl in
    let b : set (upto i f ++ get_or lent i 0 ∷ drop (suc i) lent) i (f i) ≡ upto i f ++ f i ∷ drop (suc i) lent =
    rw l at (set-append_seam (upto i f) (get_or lent i 0) (drop (suc i) lent) (f i)) in
    let c : over (upto (i + 1) f) lent ≡ upto i f ++ f i ∷ drop (suc i) lent =
    rw (add-one, m) (append_snoc (upto i f) (f i) (drop (suc i) lent)) in
    rw (a, q) (b ∙ sym c)

shown_in : (variables : TermSet) (images : List ℕ) (i : ℕ) → mem variables i ≡ true → shown variables images i ≡ byte images i
unfolding shown
shown_in variables images i e = rw e refl

shown_out : (variables : TermSet) (images : List ℕ) (i : ℕ) → mem variables i ≡ false → shown variables images i ≡ 255
unfolding shown
shown_out variables images i e = rw e refl

pub is_shown : (variables : TermSet) (images : List ℕ) (i : ℕ) {b : Bool} {r : ℕ} → b ≡ mem variables i → b ≡ true
    → r ≡ byte images i
    → r ≡ shown variables images i
is_shown variables images i e q p = p ∙ sym (shown_in variables images i (sym e ∙ q))

pub not_shown : (variables : TermSet) (images : List ℕ) (i : ℕ) {b : Bool} → b ≡ mem variables i → b ≡ false
    → 255 ≡ shown variables images i
not_shown variables images i e q = sym (shown_out variables images i (sym e ∙ q))

module _ {rows : List Row} {images lent after : List ℕ} where
  pub all_written : {variables : TermSet} {n : ℕ} → IsVariables rows variables → n ≡ length rows
      → after ≡ over (upto n (shown variables images)) lent
      → Written rows images lent after
  all_written {variables} {n} vars e is =
      let f = shown variables images in
      record {
        written = upto n f;
        is = is;
        full = length-upto n f ∙ e;
        variable = λ i h v. upto_at n f 255 i (omega arith)
            ∙ shown_in variables images i ((vars.shows.at i).1 (h, v));
        other = λ i h v. upto_at n f 255 i (omega arith)
            ∙ shown_out variables images i (bool_false _ (λ m. v ((vars.shows.at i).0 m).1));
      }

  -- the written bytes are the images that the question asks for
  pub images_written : {A B : Skeleton ℕ} {map : List ℕ} {σ : Subst} → Matches rows A B map images true → Takes rows A B map σ
      → (w : Written rows images lent after)
      → Images rows (means (term rows) A) σ w.written
  images_written {σ} matches takes w =
      record {
        full = w.full;
        inside = λ i h v. rw (w.variable i h v.variable) (matches.inside refl i h v.occurs);
        image = λ i h v. rw (w.variable i h v.variable) (matches.image refl σ takes i h v.occurs);
        elsewhere = λ i h n. elim (variable_test (term rows i)) [
          | yes v ↦ w.variable i h v ∙ matches.elsewhere refl i h (λ o. n (record { variable = v; occurs = o }))
          | no v ↦ w.other i h v
        ];
      }
