-- What the reader's answer says, with the table that it leaves.
use Rattle.std.specs.Prelude.{ℕ, List, Result, Ok, Err}
use Rattle.model.specs.Says.{number_of}
use Rattle.model.specs.Reading.{Reading, Read, read, fault, start}
use Rattle.tables.specs.Tables.{sheet_in, Filled}
use Rattle.reading.specs.declared.Faulty.{Faulty}

abbrev pub reading_of : Result (Unit {0}) Faulty → List ℕ → Reading
reading_of (Ok done) t = read (sheet_in t)
reading_of (Err faulty) t = fault (number_of faulty.reason) faulty.place

-- the sheet is read with this answer, and if it is good it is in the table
pub record ReadInto (bytes : List ℕ) (answer : Result (Unit {0}) Faulty) (t : List ℕ) : Type 0 where
  pub reads : Read start 0 bytes (reading_of answer t)
  pub filled : Filled t
