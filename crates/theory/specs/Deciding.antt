-- Decisions joined.
use Rattle.std.specs.Prelude.{◌≡◌, refl, Bool, true, false, ◌↔◌, ◌⊎◌, T, ltb}
use Rattle.std.proofs.Math.Logic.{inl, inr}
use mathlib.Core.List.Memᴰ
use mathlib.Core.List.{List, [], ◌∷◌, Memᴰ}
use Prim.Native.Nat.{ℕ, zero, suc, ◌<◌}
use Rattle.std.proofs.Common.{arith, ltb→lt, lt→ltb}
use Rattle.std.proofs.Math.Decide.{ℕ_discrete}

unfoldable pub dec_of : (b : Bool) {P : Type 0} → T b ↔ P → Dec P
dec_of true h = yes (h.0 tt)
dec_of false h = no (λ p. h.1 p)

unfoldable pub less : (m n : ℕ) → Dec (m < n)
unfolding dec_of
less m n = dec_of (ltb m n) (ltb→lt m n, lt→ltb m n)

unfoldable pub dec_to : {P Q : Type 0} → Dec P → (P → Q) → (Q → P) → Dec Q
dec_to (yes p) f g = yes (f p)
dec_to (no n) f g = no (λ q. n (g q))

unfoldable pub dec_not : {P : Type 0} → Dec P → Dec (¬ P)
dec_not (yes p) = no (λ n. n p)
dec_not (no n) = yes n

unfoldable pub dec_both : {P Q : Type 0} → Dec P → Dec Q → Dec (P × Q)
dec_both (yes p) (yes q) = yes (p, q)
dec_both (yes p) (no n) = no (λ h. n h.1)
dec_both (no n) d = no (λ h. n h.0)

unfoldable pub says_yes : {P : Type 0} → Dec P → Bool
says_yes (yes p) = true
says_yes (no n) = false

-- Some and all members

module _ {A : Type 0} (P : A → Type 0) where
  pub record Some (l : List A) : Type 0 where
    pub which : A
    pub listed : Memᴰ which l
    pub holds : P which

  unfoldable pub some_cons : {y : A} {l : List A} → Dec (P y) → Dec (Some l) → Dec (Some (y ∷ l))
  some_cons {y} (yes p) d = yes (record { which = y; listed = Memᴰ.head refl; holds = p })
  some_cons (no n) (yes s) = yes (record { which = s.which; listed = Memᴰ.tail s.listed; holds = s.holds })
  some_cons {y} {l} (no n) (no m) = no λ s. go (Memᴰ.cases_cons s.listed) s.holds
    where
      go : {x : A} → (x ≡ y) ⊎ Memᴰ x l → ¬ P x
      go (inl e) p = n (rw e at p)
      go {x} (inr k) p = m (record { which = x; listed = k; holds = p })

  unfoldable pub dec_some : (l : List A) → ((x : A) → Memᴰ x l → Dec (P x)) → Dec (Some l)
  unfolding some_cons
  dec_some [] f = no (λ s. Memᴰ.not-nil s.listed)
  dec_some (y ∷ l) f = some_cons (f y (Memᴰ.head refl)) (dec_some l (λ x m. f x (Memᴰ.tail m)))

  pub record All (l : List A) : Type 0 where
    pub each : (x : A) → Memᴰ x l → P x

  unfoldable pub all_cons : {y : A} {l : List A} → Dec (P y) → Dec (All l) → Dec (All (y ∷ l))
  all_cons {y} {l} (yes p) (yes s) = yes (record { each = λ x m. go (Memᴰ.cases_cons m) })
    where
      go : {x : A} → (x ≡ y) ⊎ Memᴰ x l → P x
      go (inl e) = rw e p
      go {x} (inr k) = s.each x k
  all_cons (yes p) (no n) = no (λ s. n (record { each = λ x m. s.each x (Memᴰ.tail m) }))
  all_cons {y} (no n) d = no (λ s. n (s.each y (Memᴰ.head refl)))

  unfoldable pub dec_all : (l : List A) → ((x : A) → Memᴰ x l → Dec (P x)) → Dec (All l)
  unfolding all_cons
  dec_all [] f = yes (record { each = λ x m. absurd (Memᴰ.not-nil m) })
  dec_all (y ∷ l) f = all_cons (f y (Memᴰ.head refl)) (dec_all l (λ x m. f x (Memᴰ.tail m)))

-- some number below n
pub record Below (P : ℕ → Type 0) (n : ℕ) : Type 0 where
  pub which : ℕ
  pub inside : which < n
  pub holds : P which

module _ (P : ℕ → Type 0) where
  unfoldable pub below_step : (n : ℕ) → Dec (P n) → Dec (Below P n) → Dec (Below P (suc n))
  below_step n d (yes b) = yes (record { which = b.which; inside = omega (arith, b.inside); holds = b.holds })
  below_step n (yes p) (no m) = yes (record { which = n; inside = omega arith; holds = p })
  below_step n (no q) (no m) = no λ b. go b (ℕ_discrete b.which n)
    where
      go : (b : Below P (suc n)) → Dec (b.which ≡ n) → ⊥
      go b (yes e) = q (rw e at b.holds)
      go b (no e) = m (record { which = b.which; inside = omega (arith, b.inside); holds = b.holds })

  unfoldable pub dec_below : (n : ℕ) → ((i : ℕ) → i < n → Dec (P i)) → Dec (Below P n)
  unfolding below_step
  dec_below zero f = no (λ b. omega (arith, b.inside))
  dec_below (suc n) f = below_step n (f n (omega arith)) (dec_below n (λ i l. f i (omega arith)))

-- The first number, and the lowest member, that has P where all before it have Q

module _ (P Q : ℕ → Type 0) where
  pub record First (n : ℕ) : Type 0 where
    pub which : ℕ
    pub inside : which < n
    pub holds : P which
    pub before : (j : ℕ) → j < which → Q j

  unfoldable pub first_step : (n : ℕ) → P n ⊎ Q n → First n ⊎ ((i : ℕ) → i < n → Q i)
      → First (suc n) ⊎ ((i : ℕ) → i < suc n → Q i)
  first_step n d (inl f) =
      inl (record { which = f.which; inside = omega (arith, f.inside); holds = f.holds; before = f.before })
  first_step n (inl p) (inr f) = inl (record { which = n; inside = omega arith; holds = p; before = f })
  first_step n (inr q) (inr f) = inr λ i l. go i l (ℕ_discrete i n)
    where
      go : (i : ℕ) → i < suc n → Dec (i ≡ n) → Q i
      go i l (yes e) = rw e q
      go i l (no e) = f i (omega arith)

  unfoldable pub first_of : (n : ℕ) → ((i : ℕ) → i < n → P i ⊎ Q i) → First n ⊎ ((i : ℕ) → i < n → Q i)
  unfolding first_step
  first_of zero d = inr (λ i l. absurd (omega arith))
  first_of (suc n) d = first_step n (d n (omega arith)) (first_of n (λ i l. d i (omega arith)))

  pub record Lowest (l : List ℕ) : Type 0 where
    pub which : ℕ
    pub listed : Memᴰ which l
    pub holds : P which
    pub lower : (b : ℕ) → Memᴰ b l → b < which → Q b

  module _ (y : ℕ) (l : List ℕ) where
    pub lower_first : ((b : ℕ) → Memᴰ b l → b < y → Q b) → (b : ℕ) → Memᴰ b (y ∷ l) → b < y → Q b
    lower_first f b (Memᴰ.head e) h = absurd (omega arith)
    lower_first f b (Memᴰ.tail m) h = f b m h

    pub lower_later : (w : ℕ) → (y < w → Q y) → ((b : ℕ) → Memᴰ b l → b < w → Q b) → (b : ℕ) → Memᴰ b (y ∷ l) → b < w
        → Q b
    lower_later w q f b (Memᴰ.head e) h = rw e (q (omega arith))
    lower_later w q f b (Memᴰ.tail m) h = f b m h

    unfoldable pub lowest_pick : (f : Lowest l) → P y → Dec (y < f.which) → Lowest (y ∷ l)
    lowest_pick f p (yes h) =
        record { which = y; listed = Memᴰ.head refl; holds = p; lower = lower_first (λ b m k. f.lower b m (omega arith)) }
    lowest_pick f p (no h) =
        record {
          which = f.which;
          listed = Memᴰ.tail f.listed;
          holds = f.holds;
          lower = lower_later f.which
              (λ k. absurd (h k)) f.lower;
        }

    unfoldable pub lowest_step : P y ⊎ Q y → Lowest l ⊎ ((b : ℕ) → Memᴰ b l → Q b)
        → Lowest (y ∷ l) ⊎ ((b : ℕ) → Memᴰ b (y ∷ l) → Q b)
    unfolding lowest_pick less
    lowest_step (inr q) (inl f) = inl (record {
      which = f.which;
      listed = Memᴰ.tail f.listed;
      holds = f.holds;
      lower = lower_later f.which (λ k. q) f.lower;
    })
    lowest_step (inl p) (inl f) = inl (lowest_pick f p (less y f.which))
    lowest_step (inl p) (inr g) =
        inl (record { which = y; listed = Memᴰ.head refl; holds = p; lower = lower_first (λ b m k. g b m) })
    lowest_step (inr q) (inr g) = inr λ b m. go b (Memᴰ.cases_cons m)
      where
        go : (b : ℕ) → (b ≡ y) ⊎ Memᴰ b l → Q b
        go b (inl e) = rw e q
        go b (inr m) = g b m

  unfoldable pub lowest_of : (l : List ℕ) → ((b : ℕ) → Memᴰ b l → P b ⊎ Q b) → Lowest l ⊎ ((b : ℕ) → Memᴰ b l → Q b)
  unfolding lowest_step
  lowest_of [] d = inr (λ b m. absurd (Memᴰ.not-nil m))
  lowest_of (y ∷ l) d = lowest_step y l (d y (Memᴰ.head refl)) (lowest_of l (λ b m. d b (Memᴰ.tail m)))
