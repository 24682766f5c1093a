-- The bytes of a TM record, and its test by the kinds of its arguments.
use Rattle.std.specs.Prelude.{ℕ, ◌+◌, ◌≡◌, Bool, cond, not, ◌&&◌, ◌||◌, List, length, ltb, leb, eqb, ◌<◌, Option, Some, None}
use Rattle.terms.specs.declared.Term.{Term}
use Rattle.model.specs.Table.{kind, first, second, row}
use Rattle.model.specs.Table as Table
use Rattle.tables.specs.Layout.{firsts, seconds, term_count}
use Rattle.tables.specs.Tables.{byte, the_row}
use Rattle.tables.specs.declared.rows.Row.{Row}

-- the row of a TM record
abbrev pub row_of : Row → Table.Row
row_of r = the_row r.kind r.first r.second

-- the three bytes are those that the row has: its kind is one, and an unused second argument is 0
pub record Written (r : Row) : Type 0 where
  pub kind_is : kind (row_of r) ≡ r.kind
  pub first_is : first (row_of r) ≡ r.first
  pub second_is : second (row_of r) ≡ r.second

-- whether the bytes of the row i are these
abbrev pub same_bytes : List ℕ → ℕ → Row → Bool
same_bytes t i r = eqb (byte t i) r.kind && eqb (byte t (firsts + i)) r.first && eqb (byte t (seconds + i)) r.second

-- the row i has the kind k and the arguments a and b
pub record IsRow (t : List ℕ) (k a b i : ℕ) : Type 0 where
  pub kind : byte t i ≡ k
  pub first : byte t (firsts + i) ≡ a
  pub second : byte t (seconds + i) ≡ b

-- the number of the row with this kind and these arguments, if there is one
pub data LooksUp (t : List ℕ) (k a b : ℕ) : Option Term → Type 0 where
  found : {i : ℕ} → i < byte t term_count → IsRow t k a b i → LooksUp t k a b (Some (record { 0 = i }))
  missing : ((i : ℕ) → i < byte t term_count → ¬ IsRow t k a b i) → LooksUp t k a b None

-- the kind of a term, and 255, which is no kind, where there is no such term
unfoldable pub kind_of : List Table.Row → ℕ → ℕ
kind_of rows t = cond (ltb t (length rows)) (kind (row rows t)) 255

-- whether the arguments are what the kind asks, by their own kinds
abbrev pub by_kinds : (ℕ → ℕ) → Row → Bool
by_kinds kind_at r =
    let a : ℕ = kind_at r.first in
    let b : ℕ = kind_at r.second in
    let unused : Bool = eqb r.second 0 in
    leb r.kind 6 && unused
    || eqb r.kind 7 && eqb a 4 && unused
    || eqb r.kind 8 && (eqb a 6 || eqb a 7) && unused
    || eqb r.kind 9 && eqb a 4 && eqb b 4
    || eqb r.kind 10 && leb a 12 && leb b 12
    || eqb r.kind 11 && leb a 12 && leb b 12 && not (eqb b 1)
    || eqb r.kind 12 && leb a 12 && unused
