-- The first place of a value in a list, or the list's length.
use Rattle.std.specs.Prelude.{◌≡◌, length, get_or}
use mathlib.Core.List.{List, [], ◌∷◌}
use Prim.Native.Nat.{ℕ, zero, suc, ◌≤◌, ◌<◌}
use native.Mathlib.Omega.{arith}

unfoldable pub pick : {P : Type 0} → Dec P → ℕ → ℕ
pick (yes p) n = zero
pick (no p) n = suc n

module _ {A : Type 0} (same : Discrete A) where
  unfoldable pub find : List A → A → ℕ
  unfolding pick
  find [] x = zero
  find (y ∷ ys) x = pick (same y x) (find ys x)

  pick_le : {x y : A} (d : Dec (y ≡ x)) → y ≡ x → (n : ℕ) → pick d n ≤ zero
  unfolding pick
  pick_le (yes p) e n = omega arith
  pick_le (no p) e n = absurd (p e)

  pick_suc : {P : Type 0} (d : Dec P) (m n : ℕ) → m ≤ n → pick d m ≤ suc n
  unfolding pick
  pick_suc (yes p) m n h = omega arith
  pick_suc (no p) m n h = omega arith

  pub find_le : (l : List A) (x d : A) (i : ℕ) → i < length l → get_or l i d ≡ x → find l x ≤ i
  unfolding find
  find_le [] x d i h e = absurd (omega arith)
  find_le (y ∷ ys) x d zero h e = pick_le (same y x) e (find ys x)
  find_le (y ∷ ys) x d (suc i) h e = pick_suc (same y x) (find ys x) i (find_le ys x d i (omega arith) e)

  pick_at : {x y : A} (e : Dec (y ≡ x)) (l : List A) (d : A) (n : ℕ) → (n < length l → get_or l n d ≡ x) → pick e n < suc (length l)
      → get_or (y ∷ l) (pick e n) d ≡ x
  unfolding pick
  pick_at (yes e) l d n f h = e
  pick_at (no e) l d n f h = f (omega arith)

  pub find_at : (l : List A) (x d : A) → find l x < length l → get_or l (find l x) d ≡ x
  unfolding find
  find_at [] x d h = absurd (omega arith)
  find_at (y ∷ ys) x d h = pick_at (same y x) ys d (find ys x) (find_at ys x d) h
