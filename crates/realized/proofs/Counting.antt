-- The members of a set, in rising order. Assumes nothing.
use mathlib.Core.Path.{◌≡◌, refl, sym, ap, ◌∙◌}
use mathlib.Core.Bool.{Bool, true, false, cond}
use mathlib.Core.List.{List, [], ◌∷◌, ◌++◌}
use Prim.Native.Nat.{ℕ, zero, suc, ◌+◌}
use native.Mathlib.Omega.{arith}
use lib.Dec.{T}
use lib.ListN.{length}
use Rattle.terms.specs.declared.TermSet.{TermSet}
use Rattle.terms.specs.Set.{mem, count, one_if, IsSize}
use Rattle.model.specs.Lists.{upto}
use Rattle.model.specs.Skeleton.{Node}
use Rattle.model.specs.Sheet.{Drawing}
use Rattle.model.specs.Answers.{ReachIs}
use Rattle.theory.specs.ListTests.{keep}
use Rattle.theory.specs.RisingLists.{passing, passing_iff, passing_rises}
use Rattle.realized.specs.Before.{IsReached}

-- as many pass as are counted
module _ (p : ℕ → Bool) where
  keep_more : (l : List ℕ) (x : ℕ) → length (keep p (l ++ (x ∷ []))) ≡ length (keep p l) + one_if (p x)
  unfolding keep
  keep_more [] x = go (p x)
    where
      go : (b : Bool) → length (cond b (x ∷ []) []) ≡ 0 + one_if b
      go true = refl
      go false = refl
  keep_more (y ∷ l) x = go (p y) (keep_more l x)
    where
      go : (b : Bool) → length (keep p (l ++ (x ∷ []))) ≡ length (keep p l) + one_if (p x)
          → length (cond b (y ∷ keep p (l ++ (x ∷ []))) (keep p (l ++ (x ∷ [])))) ≡ length
          (cond b (y ∷ keep p l) (keep p l)) + one_if (p x)
      go true e = omega (arith, e)
      go false e = e

  pub passing_counted : (n : ℕ) → length (passing p n) ≡ count p n
  unfolding passing upto count
  passing_counted zero = refl
  passing_counted (suc n) = keep_more (upto n (λ i. i)) n ∙ ap (λ k. k + one_if (p n)) (passing_counted n)

holds : (b : Bool) → T b → b ≡ true
holds true h = refl
holds false h = elim h [ ]

module _ (k : ℕ) {n : Node} {D : Drawing} {s : TermSet} {size : ℕ} where
  -- the reach is the size of the set of what is reached
  pub reach_counted : IsReached D n s → IsSize s size → ReachIs k n D size
  reach_counted r z =
      record {
        terms = passing (mem s) 256;
        rising = passing_rises (mem s) 256;
        members = λ i. (
          λ m. (r.at i).0 (holds (mem s i) ((passing_iff (mem s) 256 i).0 m).1),
          λ x. let h = (r.at i).1 x in (passing_iff (mem s) 256 i).1 (z.small i h, rw h tt),
        );
        size = passing_counted (mem s) 256 ∙ sym z.exact;
      }
