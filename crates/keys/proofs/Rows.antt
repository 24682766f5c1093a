-- The rows of a table, and its three columns.
use mathlib.Core.List.{List}
use Prim.Native.Nat.{ℕ, ◌+◌, ◌<◌}
use native.Mathlib.Omega.{arith}
use lib.Dec.{T, leb}
use Rattle.model.specs.Table.{Row, Pubk, Inv, Ltk, Pair, Enc, Hash, row, kind, first, second}
use Rattle.tables.proofs.Look.{row_in}
use Rattle.tables.specs.Layout.{firsts, seconds, term_count}
use Rattle.tables.specs.Tables.{byte, row_at, rows_in, Filled}
use Rattle.theory.specs.GoodTable.{Earlier}

-- both arguments of a row that has one are earlier; the unused second is 0
pub record EarlierBytes (t : List ℕ) (i : ℕ) : Type 0 where
  pub first : byte t (firsts + i) < i
  pub second : byte t (seconds + i) < i

record EarlierArgs (i : ℕ) (r : Row) : Type 0 where
  left : first r < i
  right : second r < i

earlier_args : (i : ℕ) (r : Row) → Earlier i r → T (leb 7 (kind r)) → EarlierArgs i r
unfolding Earlier kind first second
earlier_args i (Pubk a) e h = record { left = e; right = omega arith }
earlier_args i (Inv a) e h = record { left = e; right = omega arith }
earlier_args i (Ltk a b) e h = record { left = e.0; right = e.1 }
earlier_args i (Pair a b) e h = record { left = e.0; right = e.1 }
earlier_args i (Enc a b) e h = record { left = e.0; right = e.1 }
earlier_args i (Hash a) e h = record { left = e; right = omega arith }
earlier_args i _ e h = elim h [ ]

pub earlier_bytes : (t : List ℕ) (i : ℕ) → Filled t → i < byte t term_count → Earlier i (row (rows_in t) i) → T (leb 7 (byte t i))
    → EarlierBytes t i
earlier_bytes t i f h e l =
    let c = f.encoded i h in
    let a = earlier_args i (row_at t i) (rw (row_in t i h) at e) (rw c.kind_is l) in
    record { first = rw (← c.first_is) a.left; second = rw (← c.second_is) a.right }
