-- Laws of `member`, whether a number is in the set that words hold. Assumes nothing.
use mathlib.Core.Path.{◌≡◌, refl, sym, ap, ap₂, ◌∙◌}
use mathlib.Core.Bool.{Bool, true, false, ◌||◌, ◌&&◌, not, or-false, true≢false}
use mathlib.Core.List.{List, [], ◌∷◌}
use Prim.Native.Nat.{ℕ, zero, suc, ◌+◌, ◌*◌, ◌/◌, ◌%◌, ◌-◌, ◌^◌, ◌≤◌, ◌<◌}
use native.Mathlib.Nat.{suc-mul, one-mul, lt_of_not-le}
use native.Mathlib.Decide.{ℕ_discrete, dec_lt}
use native.Mathlib.Omega.{arith}
use Rattle.std.proofs.Common.{add-one}
use mir.Syntax.{w64}
use mir.Val.{Fits}
use borrow.Author.Tests.{eq-eqb, ne_eqb}
use lib.ListN.{length, get_or, set, get_or-eq_default}
use lib.Seq.{get_or-set_same, get_or-set_other}
use lib.Bits.{bit_or, bit_and}
use lib.Count.{ones}
use lib.Dec.{eqb, lit<}
use lib.Pow.{shl_exact}
use Rattle.terms.specs.Set.{bit, member, count}
use Rattle.terms.proofs.Bits.{bit_none, bit-or, bit-and, bit_not, bit-power, ones_count}
use Rattle.terms.proofs.Count.{count_add, count_ext}

-- numbers of one word are told apart by their bits
same_word : (k t : ℕ) → k / 64 ≡ t / 64 → eqb (k % 64) (t % 64) ≡ eqb k t
same_word k t e = go (ℕ_discrete k t)
  where
    go : Dec (k ≡ t) → eqb (k % 64) (t % 64) ≡ eqb k t
    go (yes p) = eq-eqb _ _ (ap (λ (x : ℕ). x % 64) p) ∙ sym (eq-eqb k t p)
    go (no n) = ne_eqb _ _ (λ (q : k % 64 ≡ t % 64). n (omega arith)) ∙ sym (ne_eqb k t n)

-- the bit that stands for t in its word, as `1 << (t % 64)` makes it
abbrev pub flag : ℕ → ℕ
flag t = 1 * 2 ^ (t % 64) % 2 ^ 64

bit-flag : (t k : ℕ) → bit (flag t) k ≡ eqb k (t % 64)
bit-flag t k =
    ap (λ (w : ℕ). bit w k) (shl_exact 1 (t % 64) 64 (lit< tt) (omega arith) ∙ one-mul _) ∙ bit-power (t % 64) k

-- t's bit is set in t's word
pub member-with : (ws : List ℕ) (t k : ℕ) → t < 64 * length ws
    → member (set ws (t / 64) (bit_or (get_or ws (t / 64) 0) (flag t))) k ≡ (member ws k || eqb k t)
unfolding member
member-with ws t k h = go (ℕ_discrete (k / 64) (t / 64))
  where
    go : Dec (k / 64 ≡ t / 64)
        → member (set ws (t / 64) (bit_or (get_or ws (t / 64) 0) (flag t))) k ≡ (member ws k || eqb k t)
    go (yes e) = rw (e, get_or-set_same ws (t / 64) _ 0 (omega arith), bit-or, bit-flag, same_word k t e)
    go (no n) =
        rw (get_or-set_other ws (t / 64) (k / 64) _ 0 n, ne_eqb k t (λ q. n (ap (λ (x : ℕ). x / 64) q)))
        (sym (or-false _))

-- no word has a bit
zeros : (i : ℕ) → get_or {A = ℕ} (0 ∷ 0 ∷ 0 ∷ 0 ∷ []) i 0 ≡ 0
zeros zero = refl
zeros (suc zero) = refl
zeros (suc (suc zero)) = refl
zeros (suc (suc (suc zero))) = refl
zeros (suc (suc (suc (suc i)))) = refl

pub member_none : (k : ℕ) → member (0 ∷ 0 ∷ 0 ∷ 0 ∷ []) k ≡ false
unfolding member
member_none k = rw (zeros (k / 64)) (bit_none (k % 64))

-- four words hold no number from 256 on
pub member_past : (ws : List ℕ) → length ws ≡ 4 → (k : ℕ) → 256 ≤ k → member ws k ≡ false
unfolding member
member_past ws len k h = rw (get_or-eq_default ws 0 {n = k / 64} (omega arith)) (bit_none (k % 64))

pub member_small : (ws : List ℕ) → length ws ≡ 4 → (k : ℕ) → member ws k ≡ true → k < 256
member_small ws len k e = lt_of_not-le (λ h. true≢false (sym e ∙ member_past ws len k h))

-- ---- two sets, word by word

-- the words rs are made by op of the words xs and ys
pub record MadeBy (op : ℕ → ℕ → ℕ) (xs ys rs : List ℕ) : Type 0 where
  pub made : (i : ℕ) → i < 4 → get_or rs i 0 ≡ op (get_or xs i 0) (get_or ys i 0)

module _ {op : ℕ → ℕ → ℕ} {xs ys rs : List ℕ} (hx : length xs ≡ 4) (hy : length ys ≡ 4) (hr : length rs ≡ 4)
    (by : MadeBy op xs ys rs) where
  -- what an operation does to bits, it does to members
  made_members : (g : Bool → Bool → Bool) → false ≡ g false false
      → ((i k : ℕ) → k < 64 → bit (op (get_or xs i 0) (get_or ys i 0)) k ≡ g (bit (get_or xs i 0) k) (bit (get_or ys i 0) k))
      → (k : ℕ)
      → member rs k ≡ g (member xs k) (member ys k)
  unfolding member
  made_members g none agree k = go (dec_lt (k / 64) 4)
    where
      go : Dec (k / 64 < 4) → member rs k ≡ g (member xs k) (member ys k)
      go (yes l) = ap (λ w. bit w (k % 64)) (by.made (k / 64) l) ∙ agree (k / 64) (k % 64) (omega arith)
      go (no n) =
          let h : 256 ≤ k = omega arith in
          member_past rs hr k h ∙ none ∙ ap₂ g (sym (member_past xs hx k h)) (sym (member_past ys hy k h))

pub members_union : {xs ys rs : List ℕ} → length xs ≡ 4 → length ys ≡ 4 → length rs ≡ 4 → MadeBy bit_or xs ys rs
    → (k : ℕ) → member rs k ≡ (member xs k || member ys k)
members_union hx hy hr by = made_members hx hy hr by ◌||◌ refl (λ i k l. bit-or _ _ k)

pub members_common : {xs ys rs : List ℕ} → length xs ≡ 4 → length ys ≡ 4 → length rs ≡ 4 → MadeBy bit_and xs ys rs
    → (k : ℕ) → member rs k ≡ (member xs k && member ys k)
members_common hx hy hr by = made_members hx hy hr by ◌&&◌ refl (λ i k l. bit-and _ _ k)

pub members_minus : {xs ys rs : List ℕ} → length xs ≡ 4 → length ys ≡ 4 → length rs ≡ 4
    → MadeBy (λ x y. bit_and x ((2 ^ 64 - 1) - y)) xs ys rs → ((i : ℕ) → Fits w64 (get_or ys i 0))
    → (k : ℕ) → member rs k ≡ (member xs k && not (member ys k))
members_minus {xs} {ys} hx hy hr by small =
    made_members hx hy hr by (λ a b. a && not b) refl
    (λ i k l. bit-and (get_or xs i 0) _ k ∙ ap (λ b. bit (get_or xs i 0) k && b) (bit_not (get_or ys i 0) k (small i).fits l))

-- ---- how many

-- the numbers of word n are counted by its bits
word_count : (ws : List ℕ) (n : ℕ) → get_or ws n 0 < 2 ^ 64
    → count (λ k. member ws (n * 64 + k)) 64 ≡ ones (get_or ws n 0)
unfolding member
word_count ws n h =
    count_ext _ _ 64
    (λ k l. ap₂ (λ (i j : ℕ). bit (get_or ws i 0) j) (omega arith) (omega arith))
    ∙ sym (ones_count 64 (get_or ws n 0) h)

-- a word more is counted
pub count_word : (ws : List ℕ) (n : ℕ) → get_or ws n 0 < 2 ^ 64
    → count (member ws) ((n + 1) * 64) ≡ count (member ws) (n * 64) + ones (get_or ws n 0)
count_word ws n h =
    ap (count (member ws)) (ap (λ i. i * 64) (add-one n) ∙ suc-mul n 64)
    ∙ count_add (member ws) (n * 64) 64
    ∙ ap (λ x. count (member ws) (n * 64) + x) (word_count ws n h)
