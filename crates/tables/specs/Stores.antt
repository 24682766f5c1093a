-- What a store into a table does: what it adds, and what stays.
use Rattle.std.specs.Prelude.{ℕ, ◌+◌, ◌*◌, ◌≤◌, ◌<◌, ◌≡◌, List, [], ◌∷◌, ◌++◌, length, Option, Some, None}
use Rattle.std.proofs.Math.Option as Math
use Rattle.model.specs.Skeleton.{send, recv, Skeleton}
use Rattle.model.specs.Skeleton as Skeleton
use Rattle.model.specs.Reading.{blank}
use Rattle.tables.specs.Layout.{term_count, skeleton_count, block, block_size, table_size}
use Rattle.tables.specs.Tables.{byte, rows_in, skeleton_in, Filled}
use Rattle.tables.specs.Rows.{row_of}
use Rattle.tables.specs.declared.rows.Row.{Row}
use Rattle.tables.specs.declared.blocks.Event.{Event}

-- t' has what t has from lo up to hi
pub record Keeps (lo hi : ℕ) (t t' : List ℕ) : Type 0 where
  pub same : (j : ℕ) → lo ≤ j → j < hi → byte t' j ≡ byte t j

-- nothing is in the table
pub record Emptied (t : List ℕ) : Type 0 where
  pub terms : byte t term_count ≡ 0
  pub skeletons : byte t skeleton_count ≡ 0
  pub filled : Filled t

-- a row more, and the skeletons stay
pub record RowPut (r : Row) (t t' : List ℕ) : Type 0 where
  pub rows : rows_in t' ≡ rows_in t ++ (row_of r ∷ [])
  pub kept : Keeps skeleton_count table_size t t'
  pub filled : Filled t'

-- a skeleton more, with nothing in it; the terms and the other skeletons stay
pub record Begun (t t' : List ℕ) : Type 0 where
  pub counted : byte t' skeleton_count ≡ byte t skeleton_count + 1
  pub skeleton : skeleton_in t' (byte t skeleton_count) ≡ blank
  pub terms : Keeps 0 skeleton_count t t'
  pub blocks : Keeps (block 0) (block (byte t skeleton_count)) t t'
  pub filled : Filled t'

-- the skeleton k is there, and has room for one record more of those that are counted at c
pub record HasRoom (k c most : ℕ) (t : List ℕ) : Type 0 where
  pub filled : Filled t
  pub there : k < byte t skeleton_count
  pub room : byte t (block k + c) < most

-- the skeleton k is another; all that is outside its block stays
pub record Redrawn (k : ℕ) (K : Skeleton ℕ) (t t' : List ℕ) : Type 0 where
  pub skeleton : skeleton_in t' k ≡ K
  pub below : Keeps 0 (block k) t t'
  pub above : Keeps (block k + block_size) table_size t t'
  pub filled : Filled t'

-- n events of the ST record `rest` are in the table, their directions from d on and their messages from m on; all that is in
-- neither
-- strand of 16 stays
pub record EventsPut (d m n : ℕ) (rest t t' : List ℕ) : Type 0 where
  pub long : length t' ≡ length t
  pub sent : (p : ℕ) → p < n → byte t' (d + p) ≡ byte rest (3 + 2 * p)
  pub told : (p : ℕ) → p < n → byte t' (m + p) ≡ byte rest (4 + 2 * p)
  pub apart : (j : ℕ) → (j < d + 16 → j < d) → (j < m + 16 → j < m) → byte t' j ≡ byte t j

-- what an event found in a table says
abbrev pub event_said : Option Event → Math.Option (Skeleton.Event ℕ)
event_said (Some (Event.Send t)) = Math.some (send t.0)
event_said (Some (Event.Reception t)) = Math.some (recv t.0)
event_said None = Math.none
