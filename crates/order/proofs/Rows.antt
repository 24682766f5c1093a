-- What is on in a matrix after a store, and in rows of words that are 0. Assumes nothing.
use mathlib.Core.Path.{◌≡◌, refl, sym}
use mathlib.Core.Bool.{true, false, ◌||◌, or-true, or-false}
use mathlib.Core.List.{List}
use mathlib.Core.Logic.{◌≢◌}
use Prim.Native.Nat.{ℕ, zero, suc, ◌+◌, ◌*◌, ◌/◌, ◌%◌, ◌<◌, ◌-◌}
use native.Mathlib.Nat.{add-zero}
use native.Mathlib.Omega.{arith}
use native.Mathlib.Decide.{ℕ_discrete}
use lib.ListN.{length, get_or, replicate, take, drop}
use Rattle.std.proofs.lemmas.List.{get_or-replicate, get_or-take, get_or-drop}
use lib.Seq.{get_or-set_same, get_or-set_other, lt-length-set}
use lib.Bits.{bit_or}
use borrow.Author.Tests.{eq-eqb, ne_eqb}
use Rattle.terms.specs.Set.{member, Added}
use Rattle.terms.proofs.Bits.{bit_none, bit-or}
use Rattle.order.specs.Precedence.{on}
use Rattle.order.specs.Matrix.{with_row, Empty, EmptyFrom}

-- a word that is 0 has nothing
word_none : (m : List ℕ) (a b : ℕ) → get_or m (2 * a + b / 64) 0 ≡ 0 → on m a b ≡ false
unfolding on
word_none m a b e = rw e (bit_none (b % 64))

pub row_none : (m : List ℕ) (a : ℕ) → get_or m (2 * a) 0 ≡ 0 → get_or m (2 * a + 1) 0 ≡ 0 → Empty m a
row_none m a low high = record { off = λ b hb. word_none m a b (go (b / 64) (omega arith)) }
  where
    go : (h : ℕ) → h < 2 → get_or m (2 * a + h) 0 ≡ 0
    go zero l = rw (add-zero (2 * a)) low
    go (suc zero) l = high
    go (suc (suc h)) l = absurd (omega arith)

-- all words are 0
pub rows_none : (m : List ℕ) → ((i : ℕ) → i < 192 → get_or m i 0 ≡ 0) → EmptyFrom 0 m
rows_none m none =
    record { row = λ a l ha. record { off = λ b hb. word_none m a b (none (2 * a + b / 64) (omega arith)) } }

pub rows_cleared : {m : List ℕ} (n : ℕ) → m ≡ replicate n 0 → n ≡ 192 → EmptyFrom 0 m
rows_cleared {m} n e h = rows_none m (λ i k. rw (e, h) (get_or-replicate 192 i 0 0 k))

-- row by row from the last one down
pub from_more : (m : List ℕ) (n : ℕ) → EmptyFrom n m → Empty m (n - 1) → EmptyFrom (n - 1) m
from_more m n rest one =
    record {
      row = λ a l ha. elim (ℕ_discrete a (n - 1)) [ yes e ↦ rw e one | no ne ↦ rest.row a (omega arith) ha ];
    }

pub on_row_other : (m : List ℕ) (a k x b : ℕ) → x ≢ a → b < 96 → on (with_row m a k) x b ≡ on m x b
unfolding on
on_row_other m a k x b ne hb =
    let low : 2 * x + b / 64 ≢ 2 * a = omega arith in
    let high : 2 * x + b / 64 ≢ 2 * a + 1 = omega arith in
    rw (get_or-set_other, get_or-set_other)

module _ (m : List ℕ) (long : length m ≡ 192) where
  row_word : (a k h : ℕ) → a < 96 → h < 2
      → get_or (with_row m a k) (2 * a + h) 0 ≡ bit_or (get_or m (2 * a + h) 0) (get_or m (2 * k + h) 0)
  row_word a k zero ha hh =
      let apart : 2 * a ≢ 2 * a + 1 = omega arith in
      let fits : 2 * a < length m = omega arith in
      rw (add-zero (2 * a), add-zero (2 * k), get_or-set_other, get_or-set_same)
  row_word a k (suc zero) ha hh =
      rw (
        get_or-set_same,
        lt-length-set m (2 * a) (bit_or (get_or m (2 * a) 0) (get_or m (2 * k) 0))
            {i = 2 * a + 1} (omega arith),
      )
  row_word a k (suc (suc h)) ha hh = absurd (omega arith)

  pub on_row : (a k b : ℕ) → a < 96 → b < 96 → on (with_row m a k) a b ≡ (on m a b || on m k b)
  unfolding on
  on_row a k b ha hb = rw (row_word a k (b / 64) ha (omega arith), bit-or)

-- bit b of row a is number 128 * a + b of the set that the words hold
pub on_member : (m : List ℕ) (a b : ℕ) → on m a b ≡ member m (128 * a + b)
unfolding on member
on_member m a b =
    let word : (128 * a + b) / 64 ≡ 2 * a + b / 64 = omega arith in
    let place : (128 * a + b) % 64 ≡ b % 64 = omega arith in
    rw (word, place)

-- and number b of the set that the words from that row on hold
pub on_part : (m : List ℕ) (a b n : ℕ) → b / 64 < n → member (take n (drop (2 * a) m)) b ≡ on m a b
unfolding on member
on_part m a b n h = rw (get_or-take n (drop (2 * a) m) (b / 64) 0 h, get_or-drop (2 * a) m (b / 64) 0)

-- that number put into the set
module _ (m m' : List ℕ) (a b : ℕ) (put : Added (128 * a + b) true m m') where
  pub on_put : on m' a b ≡ true
  on_put = rw (on_member m' a b, put.at (128 * a + b), eq-eqb (128 * a + b) (128 * a + b) refl, or-true)

  pub on_put_other : (x y : ℕ) → b < 128 → y < 128 → (x ≡ a → y ≡ b → ⊥) → on m' x y ≡ on m x y
  on_put_other x y hb hy ne =
      let apart : 128 * x + y ≢ 128 * a + b = λ q. ne (omega arith) (omega arith) in
      rw (on_member m' x y, put.at (128 * x + y), ne_eqb (128 * x + y) (128 * a + b) apart, or-false)
      (sym (on_member m x y))
