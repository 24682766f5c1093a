-- Each candidate has one number, numbers rise in dictionary order, and the candidates that pass are the list. Assumes nothing.
use mathlib.Core.Path.{◌≡◌, refl, ap, ◌∙◌, sym as back}
use mathlib.Core.Bool.{Bool, true, false, cond}
use mathlib.Core.Logic.{◌↔◌, ⊎_elim}
use mathlib.Core.List.Memᴰ
use mathlib.Core.List.{List, [], ◌∷◌, ◌++◌, Memᴰ}
use Prim.Native.Nat.{ℕ, zero, suc, ◌+◌, ◌*◌, ◌/◌, ◌%◌, ◌^◌, ◌≤◌, ◌<◌}
use native.Mathlib.Omega.{arith}
use native.Mathlib.Decide.{ℕ_discrete}
use native.Mathlib.Nat.{div-add-mod', div-lt_iff_lt-mul, mod-lt, one-le-pow, suc-mul, pow-zero, pow-suc, mul_comm, mul-le-mul_right, add-mul-div_right, mul-add-mod_self_right, div-eq_of_lt, mod-eq_of_lt}
use lib.ListN.{length, get_or}
use Rattle.model.specs.Term.{Term}
use Rattle.model.specs.Skeleton.{Skeleton}
use Rattle.model.specs.Rising.{Rising, none, more, InDictionary, first, later}
use Rattle.model.specs.Maps.{IsStrandMap, TheMaps}
use Rattle.list.specs.Candidates.{digits, passing}

pub digits_length : (n base c : ℕ) → length (digits n base c) ≡ n
unfolding digits
digits_length zero base c = refl
digits_length (suc n) base c = ap suc (digits_length n base (c % base ^ n))

module _ (base : ℕ) (some : 0 < base) where
  positive : (n : ℕ) → 0 < base ^ n
  positive n = one-le-pow n base some

  div_grows : (c d p : ℕ) → 0 < p → c ≤ d → c / p ≤ d / p
  div_grows c d p h l =
      let q : c < suc (d / p) * p = rw suc-mul (omega (arith, div-add-mod' d p, mod-lt d h)) in
      let r : c / p < suc (d / p) = (div-lt_iff_lt-mul h).1 q in
      omega arith

  mod-grows : (c d p : ℕ) → c < d → c / p ≡ d / p → c % p < d % p
  mod-grows c d p l e = let z : c / p * p ≡ d / p * p = ap (λ x. x * p) e in omega (arith, div-add-mod' c p, div-add-mod' d p)

  -- numbers rise in dictionary order
  pub digits_rise : (n c d : ℕ) → c < d → d < base ^ n → InDictionary (digits n base c) (digits n base d)
  unfolding digits
  digits_rise zero c d l h = absurd (omega (arith, pow-zero base))
  digits_rise (suc n) c d l h =
      go (ℕ_discrete (c / base ^ n) (d / base ^ n))
      (λ e. digits_rise n (c % base ^ n) (d % base ^ n) (mod-grows c d (base ^ n) l e) (mod-lt d (positive n)))
    where
      go : Dec (c / base ^ n ≡ d / base ^ n)
          → (c / base ^ n ≡ d / base ^ n → InDictionary (digits n base (c % base ^ n)) (digits n base (d % base ^ n)))
          → InDictionary ((c / base ^ n) ∷ digits n base (c % base ^ n)) ((d / base ^ n) ∷ digits n base (d % base ^ n))
      go (yes e) f = rw e (later (f e))
      go (no e) f =
          let q : c / base ^ n < d / base ^ n = omega (arith, div_grows c d (base ^ n) (positive n) (omega arith), e) in
          first q

  -- the number of a candidate
  unfoldable pub value : List ℕ → ℕ
  value [] = 0
  value (x ∷ l) = value l + x * base ^ length l

  Low : List ℕ → Type 0
  Low l = (s : ℕ) → s < length l → get_or l s 0 < base

  value_low : (l : List ℕ) → Low l → value l < base ^ length l
  unfolding value Low
  value_low [] h = positive 0
  value_low (x ∷ l) h =
      let p : ℕ = base ^ length l in
      let v : value l < p = value_low l (λ s k. h (suc s) (omega arith)) in
      let x_low : x < base = h zero (omega arith) in
      let m : suc x * p ≤ base * p = mul-le-mul_right p x_low in
      let e : base ^ suc (length l) ≡ base * p = pow-suc base (length l) ∙ mul_comm p base in
      rw e (omega (arith, suc-mul x p))

  digits_value : (l : List ℕ) → Low l → digits (length l) base (value l) ≡ l
  unfolding digits value Low
  digits_value [] h = refl
  digits_value (x ∷ l) h =
      let p : ℕ = base ^ length l in
      let low : Low l = λ s k. h (suc s) (omega arith) in
      let v : value l < p = value_low l low in
      let q : (value l + x * p) / p ≡ x =
      add-mul-div_right (value l) x (positive (length l)) ∙ ap (λ y. y + x) (div-eq_of_lt v) ∙ omega arith in
      let r : (value l + x * p) % p ≡ value l =
      ap (λ y. y % p) (omega arith) ∙ mul-add-mod_self_right x p (value l) ∙ mod-eq_of_lt v in
      rw (q, r, digits_value l low)

  -- those that pass

  module _ (n : ℕ) (test : ℕ → Bool) where
    pub record Passes (c : ℕ) (l : List ℕ) : Type 0 where
      pub number : ℕ
      pub below : number < c
      pub passes : test number ≡ true
      pub is : l ≡ digits n base number

    one_more : (b : Bool) (c : ℕ) (l : List ℕ) → test c ≡ b → Memᴰ l (cond b (digits n base c ∷ []) []) → Passes (suc c) l
    one_more true c l e m =
        ⊎_elim (λ q. record { number = c; below = omega arith; passes = e; is = q }) (λ q. absurd (Memᴰ.not-nil q))
        (Memᴰ.cases_cons m)
    one_more false c l e m = absurd (Memᴰ.not-nil m)

    passing_passes : (c : ℕ) (l : List ℕ) → Memᴰ l (passing n base test c) → Passes c l
    unfolding passing
    passing_passes zero l m = absurd (Memᴰ.not-nil m)
    passing_passes (suc c) l m =
        ⊎_elim
        (λ k. let p = passing_passes c l k in record {
          number = p.number;
          below = omega (arith, p.below);
          passes = p.passes;
          is = p.is;
        })
        (λ k. one_more (test c) c l refl k) (Memᴰ.append_cases (passing n base test c) m)

    passes_passing : (c : ℕ) (l : List ℕ) → Passes c l → Memᴰ l (passing n base test c)
    unfolding passing
    passes_passing zero l p = absurd (omega (arith, p.below))
    passes_passing (suc c) l p = go (ℕ_discrete p.number c) (passes_passing c l)
      where
        last : (b : Bool) → b ≡ true → l ≡ digits n base c → Memᴰ l (cond b (digits n base c ∷ []) [])
        last true e q = Memᴰ.head q
        last false e q = let z : ◌≡◌ {A = ℕ} 0 1 = cc in absurd (omega arith)

        go : Dec (p.number ≡ c) → (Passes c l → Memᴰ l (passing n base test c))
            → Memᴰ l (passing n base test c ++ cond (test c) (digits n base c ∷ []) [])
        go (yes e) f =
            Memᴰ.append_right (passing n base test c)
            (last (test c) (ap test (back e) ∙ p.passes) (p.is ∙ ap (digits n base) e))
        go (no e) f =
            Memᴰ.append_left (cond (test c) (digits n base c ∷ []) [])
            (f (record { number = p.number; below = omega (arith, p.below, e); passes = p.passes; is = p.is }))

    -- a rising list with one more that stands after all
    rising_more : (l : List (List ℕ)) (x : List ℕ) → Rising InDictionary l → ((y : List ℕ) → Memᴰ y l → InDictionary y x)
        → Rising InDictionary (l ++ (x ∷ []))
    rising_more [] x r h = more (λ y m. absurd (Memᴰ.not-nil m)) none
    rising_more (z ∷ l) x (more f r) h =
        more (λ y m. ⊎_elim (f y)
        (λ k. ⊎_elim (λ e. rw e (h z (Memᴰ.head refl))) (λ q. absurd (Memᴰ.not-nil q)) (Memᴰ.cases_cons k))
        (Memᴰ.append_cases l m))
        (rising_more l x r (λ y m. h y (Memᴰ.tail m)))

    append_none : (l : List (List ℕ)) → l ++ [] ≡ l
    append_none [] = refl
    append_none (x ∷ l) = ap (λ k. x ∷ k) (append_none l)

    passing_rises : (c : ℕ) → c ≤ base ^ n → Rising InDictionary (passing n base test c)
    unfolding passing
    passing_rises zero h = none
    passing_rises (suc c) h = go (test c) (passing_rises c (omega arith))
      where
        before : (y : List ℕ) → Memᴰ y (passing n base test c) → InDictionary y (digits n base c)
        before y m = let p = passing_passes c y m in rw p.is (digits_rise n p.number c p.below (omega arith))

        go : (b : Bool) → Rising InDictionary (passing n base test c)
            → Rising InDictionary (passing n base test c ++ cond b (digits n base c ∷ []) [])
        go true r = rising_more (passing n base test c) (digits n base c) r before
        go false r = rw append_none r

-- THE LIST: the candidates that are maps
module _ (A B : Skeleton Term) (base : ℕ) (some : 0 < base) (wide : length B.strands ≡ base) (test : ℕ → Bool)
    (decides : (c : ℕ) → c < base ^ length A.strands → (test c ≡ true) ↔ IsStrandMap A B
    (digits (length A.strands) base c)) where
  abbrev n : ℕ
  n = length A.strands

  map_number : (bytes : List ℕ) → IsStrandMap A B bytes → Passes base some n test (base ^ n) bytes
  unfolding Low
  map_number bytes m =
      let one = m.kept.strands (omega arith) in
      let l : Low base some bytes = λ s h. rw wide at (one.inside s h) in
      let v : value base some bytes < base ^ n = rw one.full at (value_low base some bytes l) in
      let e : digits n base (value base some bytes) ≡ bytes = rw one.full at (digits_value base some bytes l) in
      record { number = value base some bytes; below = v; passes = (decides _ v).1 (rw e m); is = back e }

  pub listed_maps : TheMaps A B (passing n base test (base ^ n))
  listed_maps =
      record {
        rising = passing_rises base some n test (base ^ n) (omega arith);
        members = λ bytes. (
          λ m. let p = passing_passes base some n test (base ^ n) bytes m in rw p.is
              ((decides p.number p.below).0 p.passes),
          λ m. passes_passing base some n test (base ^ n) bytes (map_number bytes m),
        );
      }
