-- What the readers' answers say, in the words of the definition.
use Rattle.std.specs.Prelude.{ℕ, ◌≡◌, List, Result, Ok, Err, IfOk}
use Rattle.model.specs.Lists.{upto}
use Rattle.model.specs.Limits.{most_nons, most_uniqs}
use Rattle.model.specs.Says.{node_of, number_of}
use Rattle.model.specs.Reading as Reading
use Rattle.model.specs.Reading.{Said, refuse, says, event_in}
use Rattle.model.specs.declared.Reason.{Reason}
use Rattle.tables.specs.Rows.{row_of, Written}
use Rattle.tables.specs.declared.blocks.Assumed.{Assumed}
use Rattle.records.specs.declared.readers.Record.{Record}

-- the two kinds of records on atoms: NO and UO
abbrev pub most : Assumed → ℕ
most Assumed.Non = most_nons
most Assumed.Uniq = most_uniqs

abbrev pub atom_mark : Assumed → Reading.Mark
atom_mark Assumed.Non = Reading.NO
atom_mark Assumed.Uniq = Reading.UO

abbrev pub atom_record : Assumed → ℕ → Reading.Record
atom_record Assumed.Non = Reading.non
atom_record Assumed.Uniq = Reading.uniq

-- what a record says; the events of a strand are in the remainder
abbrev pub record_of : Record → List ℕ → Reading.Record
record_of Record.Edition rest = Reading.edition
record_of (Record.Term row) rest = Reading.term (row_of row)
record_of Record.Begin rest = Reading.begin
record_of (Record.Strand height) rest = Reading.strand (upto height (event_in rest))
record_of (Record.Order send reception) rest = Reading.order (node_of send) (node_of reception)
record_of (Record.Atom which atom) rest = atom_record which atom.0
record_of Record.End rest = Reading.end

abbrev pub said_of : Result Record Reason → List ℕ → Said
said_of (Err reason) rest = refuse (number_of reason)
said_of (Ok said) rest = says (record_of said rest)

-- the bytes of a row are those that the row has
abbrev pub Whole : Record → Type 0
Whole (Record.Term row) = Written row
Whole _ = Unit {0}

-- the answer to a remainder is the one that the definition gives
pub record Reads (answer : Result Record Reason) (rest : List ℕ) (said : Said) : Type 0 where
  pub same : said_of answer rest ≡ said
  pub whole : IfOk answer Whole
