-- Tests over the members of a list, and over the numbers below another.
use Rattle.std.specs.Prelude.{◌≡◌, Bool, cond, ◌&&◌, ℕ, zero, suc, ◌<◌}
use Rattle.std.proofs.Math.Path.{refl}
use Rattle.std.proofs.Math.Bool.{true, false}
use Rattle.std.proofs.Math.Logic.{⊎_elim}
use mathlib.Core.List.{List, [], ◌∷◌, Memᴰ}
use Rattle.std.proofs.Common.{arith}
use Rattle.std.proofs.Math.Decide.{ℕ_discrete}
use Rattle.std.proofs.Math.Dec.{T}
use Rattle.model.specs.Lists.{some_of, every}
use Rattle.theory.specs.Tests.{both, pair_up, or_cases, or_left, or_right}
use Rattle.theory.specs.Each.{Each, each_nil, each_cons}

module _ {A : Type 0} (p : A → Bool) where
  unfoldable pub all_of : List A → Bool
  all_of [] = true
  all_of (x ∷ xs) = p x && all_of xs

  pub all_each : (l : List A) → T (all_of l) → Each (λ x. T (p x)) l
  unfolding all_of
  all_each [] h = each_nil _
  all_each (x ∷ l) h = let (a, b) = both (p x) (all_of l) h in each_cons _ a (all_each l b)

  pub each_all : (l : List A) → Each (λ x. T (p x)) l → T (all_of l)
  unfolding all_of
  each_all [] f = tt
  each_all (x ∷ l) f = pair_up (p x) (all_of l) (f x (Memᴰ.head refl)) (each_all l (λ y m. f y (Memᴰ.tail m)))

  unfoldable pub keep : List A → List A
  keep [] = []
  keep (x ∷ xs) = cond (p x) (x ∷ keep xs) (keep xs)

  pub some_found : (l : List A) → T (some_of p l) → (x : A) × Memᴰ x l × T (p x)
  unfolding some_of
  some_found (y ∷ l) h =
      ⊎_elim (λ k. (y, Memᴰ.head refl, k)) (λ k. let (x, m, q) = some_found l k in (x, Memᴰ.tail m, q))
      (or_cases (p y) (some_of p l) h)
  some_found [] h = elim h [ ]

  pub finds_some : (l : List A) {x : A} → Memᴰ x l → T (p x) → T (some_of p l)
  unfolding some_of
  finds_some (y ∷ l) (Memᴰ.head e) h = or_left (p y) (some_of p l) (rw e at h)
  finds_some (y ∷ l) (Memᴰ.tail m) h = or_right (p y) (some_of p l) (finds_some l m h)
  finds_some [] x4 h = elim x4 [ ]

  pub keeps : (l : List A) {x : A} → Memᴰ x l → T (p x) → Memᴰ x (keep l)
  unfolding keep
  keeps (y ∷ l) {x} m h = go (p y) refl m (λ k. keeps l k h)
    where
      go : (b : Bool) → p y ≡ b → Memᴰ x (y ∷ l) → (Memᴰ x l → Memᴰ x (keep l))
          → Memᴰ x (cond b (y ∷ keep l) (keep l))
      go true e (Memᴰ.head q) f = Memᴰ.head q
      go true e (Memᴰ.tail k) f = Memᴰ.tail (f k)
      go false e (Memᴰ.head q) f = absurd (rw (q, e) at h)
      go false e (Memᴰ.tail k) f = f k
  keeps [] {x = x} m h = elim m [ ]

  pub kept : (l : List A) → Each (λ x. Memᴰ x l × T (p x)) (keep l)
  unfolding keep
  kept [] = each_nil _
  kept (y ∷ l) = go (p y) refl (kept l)
    where
      go : (b : Bool) → p y ≡ b → Each (λ x. Memᴰ x l × T (p x)) (keep l)
          → Each (λ x. Memᴰ x (y ∷ l) × T (p x)) (cond b (y ∷ keep l) (keep l))
      go true e f = each_cons _ (Memᴰ.head refl, rw e tt) (λ x m. (Memᴰ.tail (f x m).0, (f x m).1))
      go false e f = λ x m. (Memᴰ.tail (f x m).0, (f x m).1)

-- of the numbers below another

pub every_true : (n : ℕ) (p : ℕ → Bool) → T (every n p) → (i : ℕ) → i < n → T (p i)
unfolding every
every_true zero p h i l = absurd (omega arith)
every_true (suc n) p h i l = go (ℕ_discrete i n) (λ k. every_true n p (both (p n) (every n p) h).1 i k)
  where
    go : Dec (i ≡ n) → (i < n → T (p i)) → T (p i)
    go (yes e) f = rw e (both (p n) (every n p) h).0
    go (no e) f = f (omega arith)

pub true_every : (n : ℕ) (p : ℕ → Bool) → ((i : ℕ) → i < n → T (p i)) → T (every n p)
unfolding every
true_every zero p f = tt
true_every (suc n) p f = pair_up (p n) (every n p) (f n (omega arith)) (true_every n p (λ i h. f i (omega arith)))
