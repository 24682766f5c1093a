-- The test of a row by the kinds of its arguments is the one that the definition of a TM record asks.
use Prim.Native.Nat.{ℕ, zero, suc, ◌≤◌, ◌<◌}
use mathlib.Core.Path.{◌≡◌, refl, sym, ◌∙◌}
use mathlib.Core.Bool.{Bool, true, false, cond, not, ◌&&◌, ◌||◌, and_assoc, and_comm, and-true, or-false, true≢false}
use mathlib.Core.List.{List}
use mathlib.Core.Option.{some, none}
use native.Mathlib.Omega.{arith}
use lib.Dec.{ltb, leb, eqb}
use lib.ListN.{length}
use borrow.Author.Tests.{leb-true, leb-false, eqb-true, eqb-false, eq-eqb, ne_eqb, lt-leb, le-leb}
use Rattle.model.specs.Table as Table
use Rattle.model.specs.Table.{Tag, Mesg, Text, Datum, Name, Skey, Akey, Pubk, Inv, Ltk, Pair, Enc, Hash, kind, first, second, row, row_of_kind, is_mesg, is_name, is_key, is_atom, earlier, sorted}
use Rattle.theory.specs.Tests.{both_true}
use Rattle.theory.specs.Places.{no_element}
use Rattle.model.specs.Reading.{Said, check, need, says, term, on_sheet, read_row, an_atom}
use Rattle.tables.specs.Tables.{the_row}
use Rattle.tables.specs.Rows.{row_of, Written, kind_of, by_kinds}
use Rattle.tables.specs.declared.rows.Row.{Row}
use Rattle.tables.proofs.Look.{all_kinds, kind_small}

-- what holds of each kind
thirteen : (P : ℕ → Type 0) → P 0 → P 1 → P 2 → P 3 → P 4 → P 5 → P 6 → P 7 → P 8 → P 9 → P 10 → P 11 → P 12 → (k : ℕ) → k < 13
    → P k
thirteen P a b c d e f g h i j k l m zero q = a
thirteen P a b c d e f g h i j k l m (suc zero) q = b
thirteen P a b c d e f g h i j k l m (suc (suc zero)) q = c
thirteen P a b c d e f g h i j k l m (suc (suc (suc zero))) q = d
thirteen P a b c d e f g h i j k l m (suc (suc (suc (suc zero)))) q = e
thirteen P a b c d e f g h i j k l m (suc (suc (suc (suc (suc zero))))) q = f
thirteen P a b c d e f g h i j k l m (suc (suc (suc (suc (suc (suc zero)))))) q = g
thirteen P a b c d e f g h i j k l m (suc (suc (suc (suc (suc (suc (suc zero))))))) q = h
thirteen P a b c d e f g h i j k l m (suc (suc (suc (suc (suc (suc (suc (suc zero)))))))) q = i
thirteen P a b c d e f g h i j k l m (suc (suc (suc (suc (suc (suc (suc (suc (suc zero))))))))) q = j
thirteen P a b c d e f g h i j k l m (suc (suc (suc (suc (suc (suc (suc (suc (suc (suc zero)))))))))) q = k
thirteen P a b c d e f g h i j k l m (suc (suc (suc (suc (suc (suc (suc (suc (suc (suc (suc zero))))))))))) q = l
thirteen P a b c d e f g h i j k l m (suc (suc (suc (suc (suc (suc (suc (suc (suc (suc (suc (suc zero)))))))))))) q = m
thirteen P a b c d e f g h i j k l m (suc (suc (suc (suc (suc (suc (suc (suc (suc (suc (suc (suc (suc n))))))))))))) q =
    absurd (omega arith)

-- a row's kind is one
a_kind : (r : Table.Row) → leb (kind r) 12 ≡ true
a_kind r = le-leb (kind r) 12 (omega (arith, kind_small r))

-- the tests of an argument by its kind: one that 255 does not pass asks for a term too
module _ (rows : List Table.Row) (t : ℕ) where
  of_kind : (f : ℕ → Bool) → f 255 ≡ false → f (kind_of rows t) ≡ ltb t (length rows) && f (kind (row rows t))
  unfolding kind_of
  of_kind f e = go (ltb t (length rows))
    where
      go : (b : Bool) → f (cond b (kind (row rows t)) 255) ≡ b && f (kind (row rows t))
      go true = refl
      go false = e

  name_test : eqb (kind_of rows t) 4 ≡ ltb t (length rows) && is_name (row rows t)
  unfolding is_name
  name_test = of_kind (λ k. eqb k 4) refl

  key_test : eqb (kind_of rows t) 6 || eqb (kind_of rows t) 7 ≡ ltb t (length rows) && is_key (row rows t)
  unfolding is_key
  key_test = of_kind (λ k. eqb k 6 || eqb k 7) refl

  term_test : leb (kind_of rows t) 12 ≡ ltb t (length rows)
  term_test = of_kind (λ k. leb k 12) refl ∙ rw a_kind (and-true (ltb t (length rows)))

  body_test : leb (kind_of rows t) 12 && not (eqb (kind_of rows t) 1) ≡ ltb t (length rows) && not (is_mesg (row rows t))
  unfolding is_mesg
  body_test = of_kind (λ k. leb k 12 && not (eqb k 1)) refl ∙ rw a_kind

  pub atom_test : leb 2 (kind_of rows t) && leb (kind_of rows t) 9 ≡ an_atom rows t
  unfolding an_atom is_atom
  atom_test = of_kind (λ k. leb 2 k && leb k 9) refl

-- what the definition asks of the row, as one test
right : List Table.Row → Row → Bool
right rows r = eqb (second (row_of r)) r.second && (earlier (length rows) (row_of r) && sorted (row rows) (row_of r))

module _ (rows : List Table.Row) (a b : ℕ) where
  abbrev Same : ℕ → Type 0
  Same k =
      right rows (record { kind = k; first = a; second = b }) ≡ by_kinds (kind_of rows)
      (record { kind = k; first = a; second = b })

  eqb_comm : (m n : ℕ) → eqb m n ≡ eqb n m
  eqb_comm m n = go (eqb n m) refl
    where
      go : (t : Bool) → eqb n m ≡ t → eqb m n ≡ t
      go true e = eq-eqb m n (sym (eqb-true n m e))
      go false e = ne_eqb m n (λ q. eqb-false n m e (sym q))

  swapped : (p q r s : Bool) → (p && q) && (r && s) ≡ (p && r) && (q && s)
  swapped true q true s = refl
  swapped true true false s = refl
  swapped true false false s = refl
  swapped false q r s = refl

  itself : eqb b b ≡ true
  itself = eq-eqb b b refl

  same : (k : ℕ) → k < 13 → Same k
  unfolding right second earlier sorted the_row
  same =
      let la = ltb a (length rows) in
      let lb = ltb b (length rows) in
      thirteen Same
      (simp (or-false, and-true, eqb_comm b 0))
      (simp (or-false, and-true, eqb_comm b 0))
      (simp (or-false, and-true, eqb_comm b 0))
      (simp (or-false, and-true, eqb_comm b 0))
      (simp (or-false, and-true, eqb_comm b 0))
      (simp (or-false, and-true, eqb_comm b 0))
      (simp (or-false, and-true, eqb_comm b 0))
      (simp (or-false, name_test, eqb_comm b 0) (and_comm (eqb 0 b) (la && is_name (row rows a))))
      (simp (or-false, key_test, eqb_comm b 0) (and_comm (eqb 0 b) (la && is_key (row rows a))))
      (simp (or-false, name_test, itself) (swapped la lb (is_name (row rows a)) (is_name (row rows b))))
      (simp (or-false, and-true, term_test, itself))
      (simp (or-false, itself, and_assoc) (rw (body_test rows b, term_test rows a)))
      (simp (and-true, term_test, eqb_comm b 0) (and_comm (eqb 0 b) la))

  none_such : (k : ℕ) → 13 ≤ k → by_kinds (kind_of rows) (record { kind = k; first = a; second = b }) ≡ false
  none_such k h =
      simp (
        lt-leb k 6 (omega arith),
        ne_eqb k 7 (omega arith),
        ne_eqb k 8 (omega arith),
        ne_eqb k 9 (omega arith),
        ne_eqb k 10 (omega arith),
        ne_eqb k 11 (omega arith),
        ne_eqb k 12 (omega arith),
      )

  -- the row of a kind
  known : (k : ℕ) → k < 13 → row_of_kind k a b ≡ some (the_row k a b)
  unfolding row_of_kind the_row
  known =
      thirteen (λ k. row_of_kind k a b ≡ some (the_row k a b)) refl refl refl refl refl refl refl refl refl refl refl refl refl

  unknown : (k : ℕ) → 13 ≤ k → row_of_kind k a b ≡ none
  unfolding row_of_kind
  unknown k h = no_element (all_kinds a b) k h

  kind_known : (k : ℕ) → k < 13 → kind (the_row k a b) ≡ k
  unfolding the_row kind
  kind_known = thirteen (λ k. kind (the_row k a b) ≡ k) refl refl refl refl refl refl refl refl refl refl refl refl refl

  first_known : (k : ℕ) → k < 13 → first (the_row k a b) ≡ a
  unfolding the_row first
  first_known = thirteen (λ k. first (the_row k a b) ≡ a) refl refl refl refl refl refl refl refl refl refl refl refl refl

-- two tests with one refusal are one test
one_check : (p q : Bool) (n : ℕ) (x : Said) → check p n (check q n x) ≡ check (p && q) n x
unfolding check
one_check true q n x = refl
one_check false q n x = refl

module _ (rows : List Table.Row) (r : Row) where
  -- what is left once the row is right
  abbrev new : Said
  new = check (not (on_sheet rows (row_of r))) 6 (says (term (row_of r)))

  abbrev Reads : Type 0
  Reads = read_row rows r.kind r.first r.second ≡ check (by_kinds (kind_of rows) r) 5 new

  reads_known : r.kind < 13 → Reads
  unfolding read_row need right
  reads_known h =
      rw (known rows r.first r.second r.kind h, ← same rows r.first r.second r.kind h)
      (one_check (eqb (second (row_of r)) r.second) (earlier (length rows) (row_of r) && sorted (row rows) (row_of r)) 5 new)

  reads_unknown : 13 ≤ r.kind → Reads
  unfolding read_row need check
  reads_unknown h = rw (unknown rows r.first r.second r.kind h, none_such rows r.first r.second r.kind h)

  pub read_by_kinds : Reads
  read_by_kinds = go (leb 13 r.kind) refl
    where
      go : (b : Bool) → leb 13 r.kind ≡ b → Reads
      go true e = reads_unknown (leb-true 13 r.kind e)
      go false e = reads_known (leb-false 13 r.kind e)

  written_known : r.kind < 13 → by_kinds (kind_of rows) r ≡ true → Written r
  unfolding right
  written_known h e =
      record {
        kind_is = kind_known rows r.first r.second r.kind h;
        first_is = first_known rows r.first r.second r.kind h;
        second_is =
            eqb-true _ r.second
            (both_true (eqb (second (row_of r)) r.second) _ (same rows r.first r.second r.kind h ∙ e)).0;
      }

  -- a row that is right has the bytes that it should
  pub right_written : by_kinds (kind_of rows) r ≡ true → Written r
  right_written e = go (leb 13 r.kind) refl
    where
      go : (b : Bool) → leb 13 r.kind ≡ b → Written r
      go true q = absurd (true≢false (sym e ∙ none_such rows r.first r.second r.kind (leb-true 13 r.kind q)))
      go false q = written_known (leb-false 13 r.kind q) e
