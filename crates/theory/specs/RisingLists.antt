-- Rising lists with the same members are one list; a list appended, kept in part or counted up rises.
use Rattle.std.specs.Prelude.{◌≡◌, refl, Bool, cond, ◌↔◌, ◌⊎◌, ℕ, zero, suc, ◌<◌, T}
use Rattle.std.proofs.Common.{ap₂, sym as back, inl, inr, ⊎_elim, arith}
use Rattle.std.proofs.Math.Bool.{true, false}
use mathlib.Core.List.Memᴰ
use mathlib.Core.List.{List, [], ◌∷◌, ◌++◌, Memᴰ}
use Rattle.model.specs.Lists.{upto}
use Rattle.model.specs.Rising.{Rising, none, more, InDictionary, first, later, shorter}
use Rattle.theory.specs.ListTests.{keep, keeps, kept}
use Rattle.theory.specs.Upto.{in_upto, below_upto}

module _ {A : Type 0} (before : A → A → Type 0) (asym : (x y : A) → before x y → ¬ before y x) where
  same_head : {x y : A} {l m : List A} → ((z : A) → Memᴰ z l → before x z) → ((z : A) → Memᴰ z m → before y z)
      → (x ≡ y) ⊎ Memᴰ x m
      → (y ≡ x) ⊎ Memᴰ y l
      → x ≡ y
  same_head h k (inl e) d = e
  same_head h k (inr c) (inl e) = back e
  same_head {x} {y} h k (inr c) (inr d) = absurd (asym x y (h y d) (k x c))

  in_rest : {x z : A} {m : List A} → before x z → (z ≡ x) ⊎ Memᴰ z m → Memᴰ z m
  in_rest {x} {z} b (inl e) = let c : before x x = rw e at b in absurd (asym x x c c)
  in_rest b (inr m) = m

  pub rising_one : (l m : List A) → Rising before l → Rising before m → ((z : A) → Memᴰ z l → Memᴰ z m)
      → ((z : A) → Memᴰ z m → Memᴰ z l)
      → l ≡ m
  rising_one [] [] r s f g = refl
  rising_one [] (y ∷ m) r s f g = absurd (Memᴰ.not-nil (g y (Memᴰ.head refl)))
  rising_one (x ∷ l) [] r s f g = absurd (Memᴰ.not-nil (f x (Memᴰ.head refl)))
  rising_one (x ∷ l) (y ∷ m) (more h r) (more k s) f g =
      let e : x ≡ y =
      same_head h k (Memᴰ.cases_cons (f x (Memᴰ.head refl))) (Memᴰ.cases_cons (g y (Memᴰ.head refl))) in
      ap₂ ◌∷◌ e
      (rising_one l m r s
      (λ z q. in_rest (rw e at (h z q)) (Memᴰ.cases_cons (f z (Memᴰ.tail q))))
      (λ z q. in_rest (rw (← e) at (k z q)) (Memᴰ.cases_cons (g z (Memᴰ.tail q)))))

not_back : {l m p q : List ℕ} → InDictionary l m → InDictionary p q → m ≡ p → l ≡ q → ⊥
not_back (first {x = x} {y = y} h) (first {x = a} {y = b} k) e f = let c : y ≡ a = (cc) in let d : x ≡ b = cc in omega arith
not_back (first {x = x} {y = y} h) (later {x = a} k) e f = let c : y ≡ a = (cc) in let d : x ≡ a = cc in omega arith
not_back (first h) shorter e f = cc
not_back (later {x = a} h) (first {x = x} {y = y} k) e f = let c : a ≡ x = (cc) in let d : a ≡ y = cc in omega arith
not_back (later h) (later k) e f = not_back h k (cc) (cc)
not_back (later h) shorter e f = cc
not_back shorter (first k) e f = cc
not_back shorter (later k) e f = cc
not_back shorter shorter e f = cc

pub dictionary_asym : (l m : List ℕ) → InDictionary l m → ¬ InDictionary m l
dictionary_asym l m h k = not_back h k refl refl

module _ {A : Type 0} (before : A → A → Type 0) where
  pub rising_append : (l m : List A) → Rising before l → Rising before m
      → ((x y : A) → Memᴰ x l → Memᴰ y m → before x y)
      → Rising before (l ++ m)
  rising_append [] m r s f = s
  rising_append (x ∷ l) m (more h r) s f =
      more (λ y q. ⊎_elim (h y) (λ k. f x y (Memᴰ.head refl) k) (Memᴰ.append_cases l q))
      (rising_append l m r s (λ a b p q. f a b (Memᴰ.tail p) q))

  pub rising_keep : (p : A → Bool) (l : List A) → Rising before l → Rising before (keep p l)
  unfolding keep
  rising_keep p [] r = none
  rising_keep p (x ∷ l) (more h r) = go (p x) (rising_keep p l r)
    where
      go : (b : Bool) → Rising before (keep p l) → Rising before (cond b (x ∷ keep p l) (keep p l))
      go true s = more (λ y q. h y (kept p l y q).0) s
      go false s = s

-- the numbers below n that pass a test

rising_upto : (n : ℕ) → Rising (λ i j. i < j) (upto n (λ i. i))
unfolding upto
rising_upto zero = none
rising_upto (suc n) =
    rising_append (λ i j. i < j) (upto n (λ i. i)) (n ∷ []) (rising_upto n) (more (λ y q. absurd (Memᴰ.not-nil q)) none)
    (λ x y p q. let e = Memᴰ.eq_of_singleton q in omega (arith, below_upto n x p))

unfoldable pub passing : (ℕ → Bool) → ℕ → List ℕ
unfolding keep upto
passing test n = keep test (upto n (λ i. i))

pub passing_rises : (test : ℕ → Bool) (n : ℕ) → Rising (λ i j. i < j) (passing test n)
unfolding passing
passing_rises test n = rising_keep (λ i j. i < j) test (upto n (λ i. i)) (rising_upto n)

pub passing_iff : (test : ℕ → Bool) (n j : ℕ) → Memᴰ j (passing test n) ↔ ((j < n) × T (test j))
unfolding passing
passing_iff test n j = (
  λ q. let (m, h) = kept test (upto n (λ i. i)) j q in (below_upto n j m, h),
  λ p. keeps test (upto n (λ i. i)) (in_upto n j p.0) p.1,
)
