-- What is read so far: the last record's mark, and the table.
use Rattle.std.specs.Prelude.{ℕ, ◌+◌, ◌*◌, ◌≤◌, ◌<◌, ◌≡◌, List, length}
use Rattle.std.proofs.Math.Option.{Option, none, some}
use Rattle.model.specs.Reading as Reading
use Rattle.model.specs.Reading.{State, Mark, BS, TM, SK, ST, OR, NO, UO, EN, after}
use Rattle.tables.specs.Layout.{term_count, skeleton_count, block, strand_count, order_count}
use Rattle.tables.specs.Tables.{byte, rows_in, drawn_in, Filled}
use Rattle.tables.specs.Rows.{Written}
use Rattle.tables.specs.Assumed.{count_place}
use Rattle.records.specs.declared.readers.Record.{Record}

abbrev pub state_in : Option Mark → List ℕ → State
state_in last t = record { last = last; rows = rows_in t; drawn = drawn_in t (byte t skeleton_count) }

-- a skeleton has begun: the last mark is SK or one that comes after it
abbrev pub Inside : Option Mark → Type 0
Inside none = ⊥
Inside (some BS) = ⊥
Inside (some TM) = ⊥
Inside (some SK) = Unit {0}
Inside (some ST) = Unit {0}
Inside (some OR) = Unit {0}
Inside (some NO) = Unit {0}
Inside (some UO) = Unit {0}
Inside (some EN) = Unit {0}

-- a mark that stands within a skeleton, or after one
abbrev pub Inner : Mark → Type 0
Inner BS = ⊥
Inner TM = ⊥
Inner SK = ⊥
Inner ST = Unit {0}
Inner OR = Unit {0}
Inner NO = Unit {0}
Inner UO = Unit {0}
Inner EN = Unit {0}

-- a table that is being read into; after an SK there is a skeleton
pub record Underway (last : Option Mark) (t : List ℕ) : Type 0 where
  pub filled : Filled t
  pub begun : Inside last → 0 < byte t skeleton_count

-- the last skeleton, where there is room for one record more of those counted at `count`
pub record InWork (t : List ℕ) (count most : ℕ) : Type 0 where
  pub k : ℕ
  pub last : k + 1 ≡ byte t skeleton_count
  pub room : byte t (block k + count) < most

-- there is room for a record, and all of it is there
abbrev pub Room : List ℕ → Record → List ℕ → Type 0
Room t Record.Edition rest = Unit {0}
Room t (Record.Term row) rest = (byte t term_count < 200) × Written row
Room t Record.Begin rest = byte t skeleton_count < 2
Room t (Record.Strand height) rest = InWork t strand_count 6 × (height ≤ 16) × (3 + 2 * height ≤ length rest)
Room t (Record.Order send reception) rest = InWork t order_count 64
Room t (Record.Atom which atom) rest = InWork t (count_place which) 32
Room t Record.End rest = 0 < byte t skeleton_count

-- t' is the table after the record, whose mark is `mark`
pub record Kept (r : Reading.Record) (t : List ℕ) (mark : Mark) (t' : List ℕ) : Type 0 where
  pub goes_on : (last : Option Mark) → state_in (some mark) t' ≡ after (state_in last t) r
  pub underway : Underway (some mark) t'
