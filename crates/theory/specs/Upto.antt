-- The laws of `upto`, `every` and `some_of`: by them a table and a count mean a list, and a store after the last of them appends
-- to it.
use Prim.Native.Nat.{ℕ, zero, suc, ◌+◌, ◌≤◌, ◌<◌}
use Rattle.std.specs.Prelude.{◌≡◌, Bool, true, false, ◌||◌, ◌&&◌, ◌⊎◌}
use Rattle.std.proofs.Math.Path.{refl, sym, ap}
use Rattle.std.proofs.Common.{◌∙◌, inl, inr, add-one, length-append}
use Rattle.std.proofs.Math.Bool.{or-false, or_assoc}
use mathlib.Core.List.Memᴰ
use mathlib.Core.List.{List, [], ◌∷◌, ◌++◌, Memᴰ}
use Rattle.std.proofs.Math.Option.{none, some}
use native.Mathlib.Omega.{arith}
use Rattle.std.proofs.Math.Decide.{ℕ_discrete}
use Rattle.std.proofs.Math.ListN.{length, get_or, get_elem?, get_or-append, get_or-eq_default}
use Rattle.std.proofs.Math.Seq.{get_or-append_seam}
use Rattle.model.specs.Lists.{upto, every, some_of}
use Rattle.theory.specs.Places.{inside_list, element_at, no_element}

-- x is one of f 0, f 1, .. up to n of them
pub record OneOf {A : Type 0} (n : ℕ) (f : ℕ → A) (x : A) : Type 0 where
  pub index : ℕ
  pub below : index < n
  pub is : x ≡ f index

module _ {A : Type 0} where
  pub length-upto : (n : ℕ) (f : ℕ → A) → length (upto n f) ≡ n
  unfolding upto
  length-upto zero f = refl
  length-upto (suc n) f = simp (length-append, length-upto n f) (omega arith)

  -- its elements by their numbers

  pub upto_at : (n : ℕ) (f : ℕ → A) (d : A) (i : ℕ) → i < n → get_or (upto n f) i d ≡ f i
  unfolding upto
  upto_at zero f d i h = absurd (omega arith)
  upto_at (suc n) f d i h = go (ℕ_discrete i n) (λ l. upto_at n f d i l)
    where
      go : Dec (i ≡ n) → (i < n → get_or (upto n f) i d ≡ f i) → get_or (upto n f ++ (f n ∷ [])) i d ≡ f i
      go (yes e) r =
          let last : i ≡ length (upto n f) = e ∙ sym (length-upto n f) in
          ap (λ (k : ℕ). get_or (upto n f ++ (f n ∷ [])) k d) last ∙ get_or-append_seam (upto n f) (f n) [] d ∙ ap f (sym e)
      go (no ne) r = let l : i < n = omega arith in get_or-append (upto n f) _ d i (rw length-upto l) ∙ r l

  pub upto_out : (n : ℕ) (f : ℕ → A) (d : A) (i : ℕ) → n ≤ i → get_or (upto n f) i d ≡ d
  upto_out n f d i h = get_or-eq_default (upto n f) d (rw length-upto h)

  pub upto_there : (n : ℕ) (f : ℕ → A) (i : ℕ) → i < n → get_elem? (upto n f) i ≡ some (f i)
  upto_there n f i h = element_at (upto n f) i (f i) (rw length-upto h) ∙ ap some (upto_at n f (f i) i h)

  pub upto_none : (n : ℕ) (f : ℕ → A) (i : ℕ) → n ≤ i → get_elem? (upto n f) i ≡ none
  upto_none n f i h = no_element (upto n f) i (rw length-upto h)

  pub upto_below : (n : ℕ) (f : ℕ → A) (i : ℕ) {x : A} → get_elem? (upto n f) i ≡ some x → i < n
  upto_below n f i h = rw length-upto at (inside_list (upto n f) i h)

  pub upto_is : (n : ℕ) (f : ℕ → A) (i : ℕ) {x : A} → get_elem? (upto n f) i ≡ some x → f i ≡ x
  upto_is n f i {x} h = let e = upto_there n f i (upto_below n f i h) in cc

  -- its members

  pub upto_has : (n : ℕ) (f : ℕ → A) (i : ℕ) → i < n → Memᴰ (f i) (upto n f)
  unfolding upto
  upto_has zero f i h = absurd (omega arith)
  upto_has (suc n) f i h = go (ℕ_discrete i n) (λ l. upto_has n f i l)
    where
      go : Dec (i ≡ n) → (i < n → Memᴰ (f i) (upto n f)) → Memᴰ (f i) (upto n f ++ (f n ∷ []))
      go (yes e) r = Memᴰ.append_right (upto n f) (Memᴰ.head (ap f e))
      go (no ne) r = Memᴰ.append_left (f n ∷ []) (r (omega arith))

  pub upto_only : (n : ℕ) (f : ℕ → A) {x : A} → Memᴰ x (upto n f) → OneOf n f x
  unfolding upto
  upto_only zero f h = absurd (Memᴰ.not-nil h)
  upto_only (suc n) f {x} h = go (λ q. upto_only n f q) (Memᴰ.append_cases (upto n f) h)
    where
      go : (Memᴰ x (upto n f) → OneOf n f x) → Memᴰ x (upto n f) ⊎ Memᴰ x (f n ∷ []) → OneOf (suc n) f x
      go r (inl q) = let o = r q in record { index = o.index; below = omega (arith, o.below); is = o.is }
      go r (inr q) = record { index = n; below = omega arith; is = Memᴰ.eq_of_singleton q }

  -- the same elements, and one more

  pub upto_same : (n : ℕ) (f g : ℕ → A) → ((i : ℕ) → i < n → g i ≡ f i) → upto n g ≡ upto n f
  unfolding upto
  upto_same zero f g h = refl
  upto_same (suc n) f g h = rw (upto_same n f g (λ i l. h i (omega arith)), h n (omega arith))

  pub upto_more : (n : ℕ) (f g : ℕ → A) (x : A) → ((i : ℕ) → i < n → g i ≡ f i) → g n ≡ x → upto (n + 1) g ≡ upto n f ++ (x ∷ [])
  unfolding upto
  upto_more n f g x h e = rw (add-one, upto_same n f g h, e)

  -- a search that counts up and looks at all: at its start, and one further

  some_snoc : (p : A → Bool) (l : List A) (x : A) → some_of p (l ++ (x ∷ [])) ≡ (some_of p l || p x)
  unfolding some_of
  some_snoc p [] x = or-false (p x)
  some_snoc p (y ∷ l) x = rw (some_snoc p l x) (sym (or_assoc (p y) (some_of p l) (p x)))

  pub some_none : (p : A → Bool) (f : ℕ → A) → false ≡ some_of p (upto 0 f)
  unfolding upto some_of
  some_none p f = refl

  pub some_next : (p : A → Bool) (f : ℕ → A) (i : ℕ) (b c : Bool) → b ≡ some_of p (upto i f) → c ≡ p (f i)
      → (b || c) ≡ some_of p (upto (i + 1) f)
  unfolding upto
  some_next p f i b c e q = rw (add-one, some_snoc p (upto i f) (f i), e, q)

-- a test of all that counts up
pub every_none : (p : ℕ → Bool) → true ≡ every 0 p
unfolding every
every_none p = refl

pub every_next : (p : ℕ → Bool) (i : ℕ) (b c : Bool) → b ≡ every i p → c ≡ p i → (c && b) ≡ every (i + 1) p
unfolding every
every_next p i b c e q = rw (add-one, e, q)

pub every_same : (n : ℕ) (p q : ℕ → Bool) → ((i : ℕ) → i < n → q i ≡ p i) → every n q ≡ every n p
unfolding every
every_same zero p q h = refl
every_same (suc n) p q h = rw (every_same n p q (λ i l. h i (omega arith)), h n (omega arith))

-- the numbers below n
pub in_upto : (n i : ℕ) → i < n → Memᴰ i (upto n (λ i. i))
in_upto n i h = upto_has n (λ i. i) i h

pub below_upto : (n i : ℕ) → Memᴰ i (upto n (λ i. i)) → i < n
below_upto n i m = let o = upto_only n (λ i. i) m in omega (arith, o.below, o.is)
