-- A list's members and their places.
use Rattle.std.specs.Prelude.{◌≡◌, refl, ℕ, zero, suc, ◌≤◌, ◌<◌, length, get_or}
use Rattle.std.proofs.Common.{sym as back, arith}
use Rattle.std.proofs.Math.Logic.{⊎_elim}
use mathlib.Core.List.Memᴰ
use mathlib.Core.List.{List, [], ◌∷◌, Memᴰ}
use Rattle.std.proofs.Math.Option.{none, some}
use Rattle.std.proofs.Math.ListN.{get_elem?}
use Rattle.model.specs.Lists.{reversed}

pub not_there : {A : Type 0} {x : A} → none ≡ some x → ⊥
not_there e = let z : ◌≡◌ {A = ℕ} 0 1 = cc in omega arith

module _ {A : Type 0} where
  pub inside_list : (l : List A) (i : ℕ) {x : A} → get_elem? l i ≡ some x → i < length l
  inside_list [] i h = absurd (not_there h)
  inside_list (y ∷ l) zero h = omega arith
  inside_list (y ∷ l) (suc i) h = omega (arith, inside_list l i h)

  pub element_at : (l : List A) (i : ℕ) (d : A) → i < length l → get_elem? l i ≡ some (get_or l i d)
  element_at [] i d h = absurd (omega arith)
  element_at (y ∷ l) zero d h = refl
  element_at (y ∷ l) (suc i) d h = element_at l i d (omega arith)

  pub no_element : (l : List A) (i : ℕ) → length l ≤ i → get_elem? l i ≡ none
  no_element [] i h = refl
  no_element (y ∷ l) zero h = absurd (omega arith)
  no_element (y ∷ l) (suc i) h = no_element l i (omega arith)

  pub in_list : (l : List A) (i : ℕ) {x : A} → get_elem? l i ≡ some x → Memᴰ x l
  in_list [] i h = absurd (not_there h)
  in_list (y ∷ l) zero {x} h = let z : x ≡ y = cc in Memᴰ.head z
  in_list (y ∷ l) (suc i) h = Memᴰ.tail (in_list l i h)

  pub listed_at : (l : List A) (i : ℕ) (d : A) → i < length l → Memᴰ (get_or l i d) l
  listed_at [] i d h = absurd (omega arith)
  listed_at (y ∷ l) zero d h = Memᴰ.head refl
  listed_at (y ∷ l) (suc i) d h = Memᴰ.tail (listed_at l i d (omega arith))

  -- a member stands at a place
  pub record Stands (l : List A) (d x : A) : Type 0 where
    pub place : ℕ
    pub inside : place < length l
    pub is : get_or l place d ≡ x

  stands_in : {x : A} {l : List A} (d : A) → Memᴰ x l → Stands l d x
  stands_in d (Memᴰ.head e) = record { place = 0; inside = omega arith; is = back e }
  stands_in d (Memᴰ.tail m) =
      let s = stands_in d m in
      record { place = suc s.place; inside = omega (arith, s.inside); is = s.is }

  pub stands : {l : List A} {x : A} (d : A) → Memᴰ x l → Stands l d x
  stands d m = stands_in d m

  pub in_reversed : (l : List A) {x : A} → Memᴰ x (reversed l) → Memᴰ x l
  unfolding reversed
  in_reversed [] m = m
  in_reversed (y ∷ l) m =
      ⊎_elim (λ k. Memᴰ.tail (in_reversed l k)) (λ k. ⊎_elim (λ e. Memᴰ.head e) (λ q. absurd (Memᴰ.not-nil q))
      (Memᴰ.cases_cons k))
      (Memᴰ.append_cases (reversed l) m)
