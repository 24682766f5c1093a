-- The two sets of atoms together. Assumes nothing.
use mathlib.Core.Path.{◌≡◌, refl, sym, ◌∙◌}
use mathlib.Core.Bool.{Bool, true, false, true≢false, ◌||◌}
use mathlib.Core.Logic.{◌↔◌, ◌⊎◌, inl, inr, ⊎_elim, ⊎_map}
use Prim.Native.Nat.{ℕ}
use Rattle.terms.specs.declared.TermSet.{TermSet}
use Rattle.terms.specs.Set.{mem, IsSetOf}
use Rattle.model.specs.Skeleton.{Skeleton}
use Rattle.realized.specs.Before.{IsWithheld}

either_iff : (a b : Bool) {r : Bool} → r ≡ (a || b) → (r ≡ true) ↔ ((a ≡ true) ⊎ (b ≡ true))
either_iff true b e = (λ h. inl refl, λ h. e)
either_iff false b e = (λ h. inr (sym e ∙ h), ⊎_elim (λ h. absurd (true≢false (sym h))) (λ h. e ∙ h))

pub both_withheld : {K : Skeleton ℕ} {a b r : TermSet} → IsSetOf K.non a → IsSetOf K.uniq b
    → ((k : ℕ) → mem r k ≡ (mem a k || mem b k))
    → IsWithheld K r
both_withheld {a} {b} non uniq joined =
    record {
      at = λ i. (
        λ h. ⊎_map (non.at i).0 (uniq.at i).0 ((either_iff (mem a i) (mem b i) (joined i)).0 h),
        λ c. (either_iff (mem a i) (mem b i) (joined i)).1 (⊎_map (non.at i).1 (uniq.at i).1 c),
      );
    }
