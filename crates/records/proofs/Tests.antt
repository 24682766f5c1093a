-- What closes a return: the tests that led there, each put in its place in the definition.
use Rattle.std.proofs.Common.{◌≡◌, refl, ℕ, ◌<◌, ◌≤◌, List, length, get_or, true, false}
use borrow.Author.Tests.{lt-ltb, le-ltb, le-leb, lt-leb, eq-eqb, ne_eqb}
use Rattle.model.specs.Says.{number_of}
use Rattle.model.specs.declared.Reason.{Reason}
use Rattle.model.specs.Table.{Row}
use Rattle.model.specs.Reading.{Said, refuse, says, check, read_row, read_TM}
use Rattle.theory.specs.Upto.{length-upto}
use Rattle.tables.proofs.Right.{read_by_kinds}
use Rattle.tables.proofs.Look.{length-rows, length-orders}
use Rattle.std.specs.Prelude.{Result, Ok, Err}
use Rattle.records.specs.Said.{record_of, Whole, Reads}
use Rattle.records.specs.declared.readers.Record.{Record}

pub check_pass : (n : ℕ) (a : Said) → check true n a ≡ a
unfolding check
check_pass n a = refl

pub check_fail : (n : ℕ) (a : Said) → check false n a ≡ refuse n
unfolding check
check_fail n a = refl

-- the reader refuses, or says, what the definition does
pub refuses : (reason : Reason) (rest : List ℕ) {said : Said} → refuse (number_of reason) ≡ said → Reads (Err reason) rest said
refuses reason rest e = record { same = e; whole = tt }

pub tells : (r : Record) (rest : List ℕ) {said : Said} → Whole r → says (record_of r rest) ≡ said → Reads (Ok r) rest said
tells r rest w e = record { same = e; whole = w }

-- a TM record that there is room for, all of it there
pub whole_term : {answer : Result Record Reason} (rows : List Row) (rest : List ℕ) → length rows < 200 → 5 ≤ length rest
    → Reads answer rest (read_row rows (get_or rest 2 0) (get_or rest 3 0) (get_or rest 4 0))
    → Reads answer rest (read_TM rows rest)
unfolding read_TM
whole_term rows rest room all h = rw (lt-ltb _ _ room, le-leb _ _ all) h

pub ruleset tests = (lt-ltb, le-ltb, le-leb, lt-leb, eq-eqb, ne_eqb, check_pass, check_fail, length-rows, length-orders, length-upto, read_by_kinds, refuses, tells)
