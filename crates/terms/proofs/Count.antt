-- Laws of `count`, how many numbers below a bound pass a test. Assumes nothing.
use mathlib.Core.Path.{◌≡◌, refl, sym, ap, ap₂, ◌∙◌}
use mathlib.Core.Bool.{Bool, true, false}
use mathlib.Core.Logic.{⊎_elim}
use Prim.Native.Nat.{ℕ, zero, suc, ◌+◌, ◌≤◌, ◌<◌, zero-le}
use native.Mathlib.Nat.{add-zero, add-suc, add_assoc, add_comm, add-le-add, le_refl, le_of_eq, le_of_suc-le-suc, not-suc-le-zero, eq-or-lt_of_le}
use native.Mathlib.Omega.{arith}
use Rattle.terms.specs.Set.{count, one_if}

-- equal tests count the same
pub count_ext : (p q : ℕ → Bool) (n : ℕ) → ((k : ℕ) → k < n → p k ≡ q k) → count p n ≡ count q n
unfolding count
count_ext p q zero h = refl
count_ext p q (suc n) h =
    ap₂ (λ (x y : ℕ). x + y) (count_ext p q n (λ k l. h k (omega arith))) (ap one_if (h n (le_refl (suc n))))

-- the first m, and then the n after them
pub count_add : (p : ℕ → Bool) (m n : ℕ) → count p (m + n) ≡ count p m + count (λ k. p (m + k)) n
unfolding count
count_add p m zero = rw (add-zero m, add-zero (count p m))
count_add p m (suc n) =
    rw (add-suc m n)
    (ap (λ (x : ℕ). x + one_if (p (m + n))) (count_add p m n)
    ∙ add_assoc (count p m) (count (λ k. p (m + k)) n) (one_if (p (m + n))))

pub count_none : (p : ℕ → Bool) → count p 0 ≡ 0
unfolding count
count_none p = refl

-- the first, and then the n after it
pub count_first : (p : ℕ → Bool) (n : ℕ) → count p (suc n) ≡ one_if (p 0) + count (λ k. p (suc k)) n
unfolding count
count_first p zero = add_comm 0 (one_if (p 0))
count_first p (suc n) =
    ap (λ (x : ℕ). x + one_if (p (suc n))) (count_first p n)
    ∙ add_assoc (one_if (p 0)) (count (λ k. p (suc k)) n) (one_if (p (suc n)))

-- ---- subsets

one_most : (b : Bool) → one_if b ≤ 1
one_most true = le_refl 1
one_most false = zero-le

pub count_most : (p : ℕ → Bool) (n : ℕ) → count p n ≤ n
unfolding count
count_most p zero = zero-le
count_most p (suc n) = omega (arith, count_most p n, one_most (p n))

one_grows : (a b : Bool) → (a ≡ true → b ≡ true) → one_if a ≤ one_if b
one_grows true b h = le_of_eq (ap one_if (sym (h refl)))
one_grows false b h = zero-le

one_back : (a b : Bool) → one_if b ≤ one_if a → b ≡ true → a ≡ true
one_back true b h e = refl
one_back false true h e = absurd (not-suc-le-zero h)
one_back false false h e = e

module _ (p q : ℕ → Bool) (sub : (k : ℕ) → p k ≡ true → q k ≡ true) where
  -- what passes more counts no less
  pub count_grows : (n : ℕ) → count p n ≤ count q n
  unfolding count
  count_grows zero = zero-le
  count_grows (suc n) = add-le-add (count_grows n) (one_grows (p n) (q n) (sub n))

  -- and where it counts no more, nothing more passes
  pub count_same : (n : ℕ) → count q n ≤ count p n → (k : ℕ) → k < n → q k ≡ true → p k ≡ true
  unfolding count
  count_same zero h k l e = absurd (not-suc-le-zero l)
  count_same (suc n) h k l e =
      ⊎_elim
      (λ (same : k ≡ n). rw same (one_back (p n) (q n) (omega (arith, count_grows n)) (rw same at e)))
      (λ (less : k < n). count_same n (omega (arith, one_grows (p n) (q n) (sub n))) k less e)
      (eq-or-lt_of_le (le_of_suc-le-suc l))

-- none passes where none is counted
pub count-zero : (p : ℕ → Bool) (n : ℕ) → count p n ≡ 0 → (k : ℕ) → k < n → p k ≡ false
unfolding count
count-zero p zero h k l = absurd (not-suc-le-zero l)
count-zero p (suc n) h k l =
    ⊎_elim (λ (same : k ≡ n). rw same (none_if (p n) (omega arith)))
    (λ (less : k < n). count-zero p n (omega arith) k less) (eq-or-lt_of_le (le_of_suc-le-suc l))
  where
    none_if : (b : Bool) → one_if b ≡ 0 → b ≡ false
    none_if true e = absurd (omega arith)
    none_if false e = refl

pub zero_count : (p : ℕ → Bool) (n : ℕ) → ((k : ℕ) → k < n → p k ≡ false) → count p n ≡ 0
unfolding count
zero_count p zero h = refl
zero_count p (suc n) h = rw (h n (omega arith)) (omega (arith, zero_count p n (λ k l. h k (omega arith))))
