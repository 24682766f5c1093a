-- A number more in a set, and the numbers of a list as a set. Assumes nothing.
use mathlib.Core.Path.{◌≡◌, refl, sym, ◌∙◌}
use mathlib.Core.Bool.{Bool, true, false, true≢false, ◌||◌}
use mathlib.Core.List.Memᴰ
use mathlib.Core.List.{List, [], ◌∷◌, ◌++◌}
use mathlib.Core.Logic.{◌↔◌, ◌⊎◌, inl, inr, ⊎_elim, ⊎_map}
use Prim.Native.Nat.{ℕ}
use lib.Dec.{eqb}
use borrow.Author.Tests.{eq-eqb, eqb-true}
use Rattle.terms.specs.declared.TermSet.{TermSet}
use Rattle.terms.specs.Set.{mem, IsSetOf}
use Rattle.terms.proofs.Words.{member_none}

abbrev pub empty : TermSet
empty = record { words = 0 ∷ 0 ∷ 0 ∷ 0 ∷ [] }

-- a set with t in it too
pub with_iff : (s : Bool) {r : Bool} (k t : ℕ) → r ≡ (s || eqb k t) → (r ≡ true) ↔ ((s ≡ true) ⊎ (k ≡ t))
with_iff true k t e = (λ h. inl refl, λ h. e)
with_iff false k t e = (λ h. inr (eqb-true k t (sym e ∙ h)), ⊎_elim (λ h. absurd (true≢false (sym h))) (λ h. e ∙ eq-eqb k t h))

-- the set of a list: of none, and of one more
pub set_none : IsSetOf [] empty
set_none = record { at = λ k. (λ e. absurd (true≢false (sym e ∙ member_none k)), λ m. absurd (Memᴰ.not-nil m)) }

pub set_more : {l : List ℕ} (x : ℕ) {s r : TermSet} → IsSetOf l s → ((k : ℕ) → mem r k ≡ (mem s k || eqb k x))
    → IsSetOf (l ++ (x ∷ [])) r
set_more {l} x {s} is more =
    record {
      at = λ k. (
        λ h. ⊎_elim (λ q. Memᴰ.append_left (x ∷ []) ((is.at k).0 q)) (λ e. Memᴰ.append_right l (Memᴰ.head e))
            ((with_iff (mem s k) k x (more k)).0 h),
        λ m. (with_iff (mem s k) k x (more k)).1 (⊎_map (is.at k).1 Memᴰ.eq_of_singleton (Memᴰ.append_cases l m)),
      );
    }
