-- What is found in a table is what is in the rows that it means.
use Prim.Native.Nat.{ℕ, zero, suc, ◌+◌, ◌≤◌, ◌<◌}
use mathlib.Core.Path.{◌≡◌, refl, ap, sym, ◌∙◌}
use native.Mathlib.Omega.{arith}
use mathlib.Core.Bool.{Bool, true, false, true≢false, and_assoc}
use mathlib.Core.List.{List, [], ◌∷◌}
use lib.Dec.{eqb}
use lib.ListN.{length}
use borrow.Author.Tests.{lt-ltb, le-ltb, eqb-true, eq-eqb}
use Rattle.model.specs.Lists.{upto, some_of}
use Rattle.model.specs.Reading.{on_sheet}
use Rattle.model.specs.Table as Table
use Rattle.model.specs.Table.{Tag, Mesg, Text, Datum, Name, Skey, Akey, Pubk, Inv, Ltk, Pair, Enc, Hash, row, row_of_kind, kind, first, second, alike}
use Rattle.tables.specs.Layout.{firsts, seconds, term_count, strand_count, order_count, non_count, uniq_count}
use Rattle.tables.specs.Tables.{byte, row_at, rows_of, rows_in, strands_at, orders_at, atoms_at, skeleton_at, drawn_in, Encoded, Filled}
use Rattle.tables.specs.Rows.{row_of, Written, same_bytes, kind_of, IsRow, LooksUp, found, missing}
use Rattle.tables.specs.declared.rows.Row.{Row}
use Rattle.std.specs.Prelude.{Option, Some, None, MatchOption}
use Rattle.terms.specs.declared.Term.{Term}
use Rattle.theory.specs.GoodTable.{row_of_bytes}
use Rattle.theory.specs.Tests.{both_true}
use Rattle.theory.specs.Places.{inside_list}
use Rattle.theory.specs.Upto.{length-upto, upto_at}

-- a row of each kind
abbrev pub all_kinds : ℕ → ℕ → List Table.Row
all_kinds a b =
    Tag a ∷ Mesg a ∷ Text a ∷ Datum a ∷ Name a ∷ Skey a ∷ Akey a ∷ Pubk a ∷ Inv a ∷ Ltk a b ∷ Pair a b ∷ Enc a b ∷ Hash a ∷ []

-- a row's kind is one
pub kind_small : (r : Table.Row) → kind r < 13
unfolding row_of_kind
kind_small r = inside_list (all_kinds (first r) (second r)) (kind r) (row_of_bytes r)

pub length-rows : (n : ℕ) (t : List ℕ) → length (rows_of n t) ≡ n
unfolding rows_of
length-rows n t = length-upto n (row_at t)

-- the rows by the bytes of the table
pub count_is : (t : List ℕ) → length (rows_in t) ≡ byte t term_count
count_is t = length-rows (byte t term_count) t

pub row_in : (t : List ℕ) (i : ℕ) → i < byte t term_count → row (rows_in t) i ≡ row_at t i
unfolding rows_of
row_in t i h = upto_at (byte t term_count) (row_at t) (Tag 0) i h

module _ (t : List ℕ) (i : ℕ) (f : Filled t) (h : i < byte t term_count) where
  pub kind_is : kind (row (rows_in t) i) ≡ byte t i
  kind_is = rw (row_in t i h) (f.encoded i h).kind_is

  pub first_is : first (row (rows_in t) i) ≡ byte t (firsts + i)
  first_is = rw (row_in t i h) (f.encoded i h).first_is

  pub second_is : second (row (rows_in t) i) ≡ byte t (seconds + i)
  second_is = rw (row_in t i h) (f.encoded i h).second_is

-- a kind's byte
pub kind_low : (t : List ℕ) (i : ℕ) → Filled t → i < byte t term_count → byte t i < 13
kind_low t i f h = rw (f.encoded i h).kind_is at (kind_small (row_at t i))

pub kind_in : (t : List ℕ) (i : ℕ) → Filled t → i < byte t term_count → byte t i ≡ kind_of (rows_in t) i
unfolding rows_of kind_of
kind_in t i f h =
    let n = byte t term_count in
    sym (rw (length-upto n (row_at t), lt-ltb i n h, upto_at n (row_at t) (Tag 0) i h) (f.encoded i h).kind_is)

pub kind_out : (t : List ℕ) (i : ℕ) → byte t term_count ≤ i → 255 ≡ kind_of (rows_in t) i
unfolding kind_of
kind_out t i h = rw (length-rows (byte t term_count) t, le-ltb i (byte t term_count) h)

-- equal bytes are those of rows that are alike
pub alike_bytes : (t : List ℕ) (i : ℕ) (r : Row) → Encoded t i → Written r → same_bytes t i r ≡ alike (row_at t i) (row_of r)
unfolding alike
alike_bytes t i r e w =
    rw (e.kind_is, e.first_is, e.second_is, w.kind_is, w.first_is, w.second_is)
    (and_assoc (eqb (byte t i) r.kind) (eqb (byte t (firsts + i)) r.first) (eqb (byte t (seconds + i)) r.second))

-- they are those of a row with these bytes
bytes_row : (t : List ℕ) (i : ℕ) (r : Row) → same_bytes t i r ≡ true → IsRow t r.kind r.first r.second i
bytes_row t i r e =
    let (h, s) = both_true _ _ e in
    let (k, f) = both_true _ _ h in
    record { kind = eqb-true _ _ k; first = eqb-true _ _ f; second = eqb-true _ _ s }

row_bytes : (t : List ℕ) (i : ℕ) (r : Row) → same_bytes t i r ≡ false → ¬ IsRow t r.kind r.first r.second i
row_bytes t i r e s = true≢false (sym (simp (eq-eqb _ _ s.kind, eq-eqb _ _ s.first, eq-eqb _ _ s.second) refl) ∙ e)

-- the first of n rows that has these bytes
pub looked_up : (t : List ℕ) (r : Row) {n : ℕ} (o : Option ℕ) (p : Option Term) → n ≡ byte t term_count
    → MatchOption o ((k : ℕ) → 0 ≤ k → k < n → same_bytes t k r ≡ false)
    (λ i. (0 ≤ i) × (i < n) × (same_bytes t i r ≡ true) × ((k : ℕ) → 0 ≤ k → k < i → same_bytes t k r ≡ false))
    → MatchOption o (p ≡ None) (λ i. p ≡ Some (record { 0 = i })) → LooksUp t r.kind r.first r.second p
looked_up t r None p e f s = rw s (missing (λ k h. row_bytes t k r (f k (omega arith) (omega arith))))
looked_up t r (Some i) p e f s = rw s (found {i = i} (omega arith) (bytes_row t i r f.2))

-- the rows up to i are looked at, and those are all
pub all_searched : (t : List ℕ) (i : ℕ) (r : Table.Row) (so : Bool) → i ≡ byte t term_count
    → so ≡ some_of (λ q. alike q r) (upto i (row_at t)) → so ≡ on_sheet (rows_in t) r
unfolding on_sheet rows_of
all_searched t i r so e h = rw (← e) h

-- the lengths of a skeleton's lists are its counts
module _ (t : List ℕ) (b : ℕ) where
  pub length_strands : length (skeleton_at t b).strands ≡ byte t (b + strand_count)
  unfolding skeleton_at strands_at
  length_strands = length-upto _ _

  pub length-orders : length (skeleton_at t b).order ≡ byte t (b + order_count)
  unfolding skeleton_at orders_at
  length-orders = length-upto _ _

  pub length_nons : length (skeleton_at t b).non ≡ byte t (b + non_count)
  unfolding skeleton_at atoms_at
  length_nons = length-upto _ _

  pub length_uniqs : length (skeleton_at t b).uniq ≡ byte t (b + uniq_count)
  unfolding skeleton_at atoms_at
  length_uniqs = length-upto _ _

pub length-drawn : (t : List ℕ) (n : ℕ) → length (drawn_in t n) ≡ n
unfolding drawn_in
length-drawn t zero = refl
length-drawn t (suc n) = ap suc (length-drawn t n)
