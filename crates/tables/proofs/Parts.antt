-- Each list that a table means depends on its own part of the table alone: the rows on the first 600 bytes, a skeleton on its
-- block, and within a block each list on its part.
use Prim.Native.Nat.{ℕ, zero, suc, ◌+◌, ◌*◌, ◌≤◌, ◌<◌}
use mathlib.Core.Path.{◌≡◌, refl}
use mathlib.Core.List.{List}
use native.Mathlib.Omega.{arith}
use Rattle.model.specs.Skeleton.{Event, Node, Skeleton}
use Rattle.tables.specs.Layout.{strand_count, order_count, non_count, uniq_count, heights, directions, messages, orders, nons, uniqs, block_size, firsts, seconds}
use Rattle.tables.specs.Tables.{byte, row_at, rows_of, trace_at, strands_at, orders_at, atoms_at, skeleton_at, skeleton_in, drawn_in, Encoded, Block}
use Rattle.tables.specs.Stores.{Keeps}
use Rattle.theory.specs.Upto.{upto_same}
use Rattle.tables.proofs.Stored.{keeps_within}

-- a row, by its three bytes
module _ (t t' : List ℕ) (i : ℕ) (k : byte t' i ≡ byte t i) (a : byte t' (firsts + i) ≡ byte t (firsts + i))
    (b : byte t' (seconds + i) ≡ byte t (seconds + i)) where
  pub row_same : row_at t' i ≡ row_at t i
  row_same = rw (k, a, b)

  pub encoded_same : Encoded t i → Encoded t' i
  encoded_same e =
      record {
        kind_is = rw (k, a, b) e.kind_is;
        first_is = rw (k, a, b) e.first_is;
        second_is = rw (k, a, b) e.second_is;
      }

module _ {t t' : List ℕ} (s : Keeps 0 600 t t') where
  pub rows_same : (n : ℕ) → n ≤ 200 → rows_of n t' ≡ rows_of n t
  unfolding rows_of
  rows_same n h =
      upto_same n (row_at t) (row_at t')
      (λ i l. row_same t t' i (s.same i (omega arith) (omega arith)) (s.same (200 + i) (omega arith) (omega arith))
      (s.same (400 + i) (omega arith) (omega arith)))

  pub encoded_stays : (i : ℕ) → i < 200 → Encoded t i → Encoded t' i
  encoded_stays i l =
      encoded_same t t' i (s.same i (omega arith) (omega arith)) (s.same (200 + i) (omega arith) (omega arith))
      (s.same (400 + i) (omega arith) (omega arith))

-- one strand of a block
pub trace_same : (b i : ℕ) {t t' : List ℕ} → byte t (b + heights + i) ≤ 16
    → Keeps (b + heights + i) (b + heights + i + 1) t t'
    → Keeps (b + directions + 16 * i) (b + directions + 16 * i + 16) t t'
    → Keeps (b + messages + 16 * i) (b + messages + 16 * i + 16) t t'
    → trace_at t' b i ≡ trace_at t b i
unfolding trace_at
trace_same b i {t} {t'} l h d m =
    rw (h.same (b + heights + i) (omega arith) (omega arith))
    (upto_same (byte t (b + heights + i)) _ _
    (λ p q. rw (
      d.same (b + directions + 16 * i + p) (omega arith) (omega arith),
      m.same (b + messages + 16 * i + p) (omega arith) (omega arith),
    )))

module _ (b : ℕ) {t t' : List ℕ} where
  pub strands_same : (n : ℕ) → n ≤ 6 → ((s : ℕ) → s < n → byte t (b + heights + s) ≤ 16) → Keeps (b + heights) (b + orders) t t'
      → strands_at n t' b ≡ strands_at n t b
  unfolding strands_at
  strands_same n h low s =
      upto_same n (trace_at t b) (trace_at t' b)
      (λ i l. trace_same b i (low i l) (keeps_within (omega arith) (omega arith) s) (keeps_within (omega arith) (omega arith) s)
      (keeps_within (omega arith) (omega arith) s))

  pub orders_same : (n : ℕ) → Keeps (b + orders) (b + orders + 4 * n) t t' → orders_at n t' b ≡ orders_at n t b
  unfolding orders_at
  orders_same n s =
      upto_same n _ _
      (λ i l. let at = b + orders + 4 * i in
      rw (
        s.same at (omega arith) (omega arith),
        s.same (at + 1) (omega arith) (omega arith),
        s.same (at + 2) (omega arith) (omega arith),
        s.same (at + 2 + 1) (omega arith) (omega arith),
      ))

-- the atoms from i on
pub atoms_same : (i n : ℕ) {t t' : List ℕ} → Keeps i (i + n) t t' → atoms_at n t' i ≡ atoms_at n t i
unfolding atoms_at
atoms_same i n s = upto_same n _ _ (λ j l. s.same (i + j) (omega arith) (omega arith))

-- a skeleton by its four lists
pub four_lists : {s s' : List (List (Event ℕ))} {o o' : List (Node × Node)} {n n' u u' : List ℕ}
    → s' ≡ s → o' ≡ o → n' ≡ n → u' ≡ u
    → ◌≡◌ {A = Skeleton ℕ} (record { strands = s'; order = o'; non = n'; uniq = u' })
    (record { strands = s; order = o; non = n; uniq = u })
four_lists p q r e = cc

module _ (b : ℕ) {t t' : List ℕ} where
  -- the whole block
  pub skeleton_same : Block t b → Keeps b (b + block_size) t t' → skeleton_at t' b ≡ skeleton_at t b
  unfolding skeleton_at
  skeleton_same B s =
      four_lists
      (rw (s.same (b + strand_count) (omega arith) (omega arith))
      (strands_same b _ B.strands B.low (keeps_within (omega arith) (omega arith) s)))
      (rw (s.same (b + order_count) (omega arith) (omega arith))
      (orders_same b _ (keeps_within (omega arith) (omega (arith, B.orders_most)) s)))
      (rw (s.same (b + non_count) (omega arith) (omega arith))
      (atoms_same (b + nons) _ (keeps_within (omega arith) (omega (arith, B.nons_most)) s)))
      (rw (s.same (b + uniq_count) (omega arith) (omega arith))
      (atoms_same (b + uniqs) _ (keeps_within (omega arith) (omega (arith, B.uniqs_most)) s)))

  pub block_same : Block t b → Keeps b (b + block_size) t t' → Block t' b
  block_same B s =
      let n : byte t' (b + strand_count) ≡ byte t (b + strand_count) = s.same (b + strand_count) (omega arith) (omega arith) in
      record {
        strands = rw n B.strands;
        low = λ i l. rw (s.same (b + heights + i) (omega arith) (omega (arith, B.strands))) (B.low i (omega arith));
        orders_most = rw (s.same (b + order_count) (omega arith) (omega arith)) B.orders_most;
        nons_most = rw (s.same (b + non_count) (omega arith) (omega arith)) B.nons_most;
        uniqs_most = rw (s.same (b + uniq_count) (omega arith) (omega arith)) B.uniqs_most;
      }

-- the skeletons from the last one back
pub drawn_same : (t t' : List ℕ) (n : ℕ) → ((k : ℕ) → k < n → skeleton_in t' k ≡ skeleton_in t k) → drawn_in t' n ≡ drawn_in t n
unfolding drawn_in
drawn_same t t' zero h = refl
drawn_same t t' (suc n) h = rw (h n (omega arith), drawn_same t t' n (λ k l. h k (omega arith)))
