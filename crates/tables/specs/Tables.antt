-- What a table means: a sheet, as lists.
use Rattle.std.specs.Prelude.{ℕ, zero, suc, ◌+◌, ◌*◌, ◌≤◌, ◌<◌, ◌≡◌, List, [], ◌∷◌, length, get_or}
use Rattle.model.specs.Lists.{upto}
use Rattle.model.specs.Table.{Row, Tag, Mesg, Text, Datum, Name, Skey, Akey, Pubk, Inv, Ltk, Pair, Enc, Hash, kind, first, second}
use Rattle.model.specs.Skeleton.{Event, Node, Skeleton}
use Rattle.model.specs.Sheet.{Sheet}
use Rattle.model.specs.Reading.{event}
use Rattle.tables.specs.Layout.{firsts, seconds, term_count, skeleton_count, block, table_size, strand_count, order_count, non_count, uniq_count, heights, directions, messages, orders, nons, uniqs}

abbrev pub byte : List ℕ → ℕ → ℕ
byte t i = get_or t i 0

-- the row of three bytes
unfoldable pub the_row : ℕ → ℕ → ℕ → Row
the_row k a b =
    get_or (Tag a ∷ Mesg a ∷ Text a ∷ Datum a ∷ Name a ∷ Skey a ∷ Akey a ∷ Pubk a ∷ Inv a ∷ Ltk a b ∷ Pair a b ∷ Enc a b ∷ Hash a
    ∷ []) k (Tag a)

abbrev pub row_at : List ℕ → ℕ → Row
row_at t i = the_row (byte t i) (byte t (firsts + i)) (byte t (seconds + i))

-- the first n rows
unfoldable pub rows_of : ℕ → List ℕ → List Row
rows_of n t = upto n (row_at t)

abbrev pub rows_in : List ℕ → List Row
rows_in t = rows_of (byte t term_count) t

-- Of the block that begins at b

unfoldable pub trace_at : List ℕ → ℕ → ℕ → List (Event ℕ)
trace_at t b s =
    upto (byte t (b + heights + s)) (λ p. event (byte t (b + directions + 16 * s + p)) (byte t (b + messages + 16 * s + p)))

abbrev pub node_at : List ℕ → ℕ → Node
node_at t i = record { strand = byte t i; position = byte t (i + 1) }

unfoldable pub strands_at : ℕ → List ℕ → ℕ → List (List (Event ℕ))
strands_at n t b = upto n (trace_at t b)

unfoldable pub orders_at : ℕ → List ℕ → ℕ → List (Node × Node)
orders_at n t b = upto n (λ i. (node_at t (b + orders + 4 * i), node_at t (b + orders + 4 * i + 2)))

-- n atoms from i on
unfoldable pub atoms_at : ℕ → List ℕ → ℕ → List ℕ
atoms_at n t i = upto n (λ j. byte t (i + j))

unfoldable pub skeleton_at : List ℕ → ℕ → Skeleton ℕ
skeleton_at t b =
    record {
      strands = strands_at (byte t (b + strand_count)) t b;
      order = orders_at (byte t (b + order_count)) t b;
      non = atoms_at (byte t (b + non_count)) t (b + nons);
      uniq = atoms_at (byte t (b + uniq_count)) t (b + uniqs);
    }

abbrev pub skeleton_in : List ℕ → ℕ → Skeleton ℕ
skeleton_in t k = skeleton_at t (block k)

-- the whole sheet
unfoldable pub sheet_in : List ℕ → Sheet
sheet_in t = record { rows = rows_in t; skeletons = upto (byte t skeleton_count) (skeleton_in t) }

-- the same with the last skeleton first, as it is read
unfoldable pub drawn_in : List ℕ → ℕ → List (Skeleton ℕ)
drawn_in t zero = []
drawn_in t (suc k) = skeleton_in t k ∷ drawn_in t k

-- What holds of a table that is being filled

-- the three bytes of the row i are those of its TM record
pub record Encoded (t : List ℕ) (i : ℕ) : Type 0 where
  pub kind_is : kind (row_at t i) ≡ byte t i
  pub first_is : first (row_at t i) ≡ byte t (firsts + i)
  pub second_is : second (row_at t i) ≡ byte t (seconds + i)

pub record Block (t : List ℕ) (b : ℕ) : Type 0 where
  pub strands : byte t (b + strand_count) ≤ 6
  pub low : (s : ℕ) → s < byte t (b + strand_count) → byte t (b + heights + s) ≤ 16
  pub orders_most : byte t (b + order_count) ≤ 64
  pub nons_most : byte t (b + non_count) ≤ 32
  pub uniqs_most : byte t (b + uniq_count) ≤ 32

pub record Filled (t : List ℕ) : Type 0 where
  pub long : length t ≡ table_size
  pub terms : byte t term_count ≤ 200
  pub encoded : (i : ℕ) → i < byte t term_count → Encoded t i
  pub skeletons : byte t skeleton_count ≤ 2
  pub blocks : (k : ℕ) → k < byte t skeleton_count → Block t (block k)
