-- The number of a key's inverse on a table.
use Rattle.std.specs.Prelude.{◌≡◌, ℕ, ◌<◌}
use Rattle.std.proofs.Math.Path.{refl}
use mathlib.Core.List.{List}
use native.Mathlib.Omega.{arith}
use Rattle.std.proofs.Math.ListN.{length}
use Rattle.model.specs.Term.{flip, inv}
use Rattle.model.specs.Table.{Row, Tag, Mesg, Text, Datum, Name, Skey, Akey, Pubk, Inv, Ltk, Pair, Enc, Hash, row, meaning, term}
use Rattle.model.proofs.Laws.{inv-inv}
use Rattle.theory.specs.Find.{find, find_le, find_at}
use Rattle.theory.specs.GoodTable.{row_same, IsKey, an_akey, a_pubk, Good, Earlier}
use Rattle.theory.specs.Numbers.{law}

-- the number of a key's inverse
unfoldable pub inverse_of : List Row → ℕ → Row → ℕ
unfolding find row_same
inverse_of rows b (Tag n) = b
inverse_of rows b (Mesg n) = b
inverse_of rows b (Text n) = b
inverse_of rows b (Datum n) = b
inverse_of rows b (Name n) = b
inverse_of rows b (Skey n) = b
inverse_of rows b (Akey n) = find row_same rows (Inv b)
inverse_of rows b (Pubk a) = find row_same rows (Inv b)
inverse_of rows b (Inv a) = a
inverse_of rows b (Ltk a c) = b
inverse_of rows b (Pair a c) = b
inverse_of rows b (Enc a c) = b
inverse_of rows b (Hash a) = b

unfoldable pub inverse_at : List Row → ℕ → ℕ
unfolding inverse_of
inverse_at rows b = inverse_of rows b (row rows b)

-- The inverse's number names the inverse

module _ (rows : List Row) (good : Good rows) where
  -- j is the number of b's inverse
  pub record InverseAt (b j : ℕ) : Type 0 where
    pub inside : j < length rows
    pub means : term rows j ≡ inv (term rows b)

  found : (b : ℕ) → b < length rows → IsKey (row rows b) → InverseAt b (find row_same rows (Inv b))
  unfolding meaning
  found b h k =
      let (j, l, e) = good.inverses b h k in
      let le = find_le row_same rows (Inv b) (Tag 0) j l e in
      record { inside = omega arith; means = law rows good _ (omega arith) (find_at row_same rows (Inv b) (Tag 0) (omega arith)) }

  inverse_of_law : (b : ℕ) → b < length rows → (r : Row) → row rows b ≡ r → InverseAt b (inverse_of rows b r)
  unfolding inverse_of meaning inv flip Earlier
  inverse_of_law b h (Tag n) e = record { inside = h; means = rw (law rows good b h e) }
  inverse_of_law b h (Mesg n) e = record { inside = h; means = rw (law rows good b h e) }
  inverse_of_law b h (Text n) e = record { inside = h; means = rw (law rows good b h e) }
  inverse_of_law b h (Datum n) e = record { inside = h; means = rw (law rows good b h e) }
  inverse_of_law b h (Name n) e = record { inside = h; means = rw (law rows good b h e) }
  inverse_of_law b h (Skey n) e = record { inside = h; means = rw (law rows good b h e) }
  inverse_of_law b h (Akey n) e = found b h (rw e an_akey)
  inverse_of_law b h (Pubk a) e = found b h (rw e a_pubk)
  inverse_of_law b h (Inv a) e =
      let l : a < b = rw e at (good.earlier b h) in record { inside = omega arith; means = rw (law rows good b h e, inv-inv) }
  inverse_of_law b h (Ltk a c) e = record { inside = h; means = rw (law rows good b h e) }
  inverse_of_law b h (Pair a c) e = record { inside = h; means = rw (law rows good b h e) }
  inverse_of_law b h (Enc a c) e = record { inside = h; means = rw (law rows good b h e) }
  inverse_of_law b h (Hash a) e = record { inside = h; means = rw (law rows good b h e) }

  pub inverse_law : (b : ℕ) → b < length rows → InverseAt b (inverse_at rows b)
  unfolding inverse_at
  inverse_law b h = inverse_of_law b h (row rows b) refl
