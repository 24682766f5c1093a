-- `terms::TermSet::is_empty` meets its contract: a set with no number counts none, and one that counts none has none. Assumes
-- nothing.
use mathlib.Core.Path.{◌≡◌, refl, sym, ◌∙◌}
use mathlib.Core.Bool.{Bool, true, false}
use mathlib.Core.Logic.{◌↔◌}
use Prim.Native.Nat.{ℕ, ◌<◌, ◌≤◌}
use native.Mathlib.Decide.{dec_lt}
use native.Mathlib.Omega.{arith}
use lib.Dec.{eqb}
use borrow.Author.Tests.{eq-eqb, eqb-true}
use Rattle.terms.specs.declared.TermSet.{TermSet}
use Rattle.terms.specs.Set.{mem, IsSize}
use Rattle.terms.proofs.Count.{count-zero, zero_count}
use Rattle.terms.proofs.TermSet.is_empty.Goals as goal

none_past : (s : TermSet) → ((k : ℕ) → mem s k ≡ true → k < 256) → (k : ℕ) → 256 ≤ k → mem s k ≡ false
none_past s small k h = go (mem s k) (small k)
  where
    go : (b : Bool) → (b ≡ true → k < 256) → b ≡ false
    go true f = absurd (omega (arith, f refl))
    go false f = refl

emptied : (s : TermSet) (n : ℕ) → IsSize s n → (eqb n 0 ≡ true) ↔ ((k : ℕ) → mem s k ≡ false)
emptied s n size = (
  λ e k. go k (dec_lt k 256) (eqb-true n 0 e),
  λ f. eq-eqb n 0 (size.exact ∙ zero_count (mem s) 256 (λ k l. f k)),
)
  where
    go : (k : ℕ) → Dec (k < 256) → n ≡ 0 → mem s k ≡ false
    go k (yes l) e = count-zero (mem s) 256 (sym size.exact ∙ e) k l
    go k (no l) e = none_past s size.small k (omega arith)

pub returns : goal.returns
returns c = emptied _ _ c.count.ensures
