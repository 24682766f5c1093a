-- The next record is read as its mark says.
use Prim.Native.Nat.{ℕ, ◌+◌, ◌≤◌, ◌<◌}
use mathlib.Core.Path.{◌≡◌, sym, ◌∙◌, subst}
use mathlib.Core.List.{List}
use mathlib.Core.Option.{Option, some}
use lib.ListN.{length, get_or}
use borrow.Author.Tests.{le-leb, lt-leb}
use Rattle.std.specs.Prelude.{Result}
use Rattle.model.specs.Reading.{State, Mark, SK, ST, OR, refuse, check, need, may_follow, marked_as, read_SK, read_ST, read_OR, read_atom, read_as, read_record}
use Rattle.model.specs.declared.Reason.{Reason}
use Rattle.tables.specs.Layout.{term_count, skeleton_count, block, strand_count}
use Rattle.tables.specs.Tables.{byte, rows_in, skeleton_in}
use Rattle.tables.specs.Assumed.{count_place}
use Rattle.tables.specs.declared.blocks.Assumed.{Assumed}
use Rattle.tables.proofs.Look.{length-rows, length_strands, length_nons, length_uniqs, length-drawn}
use Rattle.std.specs.Prelude as Std
use Rattle.records.proofs.Tests.{refuses, tells}
use Rattle.records.specs.Marks.{mark, last_of}
use Rattle.records.specs.declared.marks.Mark.{Mark as CodeMark}
use Rattle.records.specs.Said.{Reads, most, atom_mark, atom_record}
use Rattle.records.specs.declared.readers.Record.{Record}
use Rattle.reading.specs.States.{state_in, Inner, Underway}
use Rattle.reading.proofs.Keeps.{at_work}
use Rattle.reading.proofs.Told.{inside}

abbrev pub marked : Option Mark → List ℕ → Option Mark
marked last rest = marked_as (get_or rest 0 0) (get_or rest 1 0) (may_follow last)

-- no mark
pub too_short : (s : State) (rest : List ℕ) → length rest < 2 → refuse 1 ≡ read_record s rest
unfolding read_record check
too_short s rest l = rw (lt-leb _ _ l)

-- the code's mark is found
module _ (last : Option Mark) (t rest : List ℕ) {o : Std.Option CodeMark} (is : last_of o ≡ marked last rest) where
  pub no_such : 2 ≤ length rest → o ≡ Std.None → refuse 2 ≡ read_record (state_in last t) rest
  unfolding read_record check need
  no_such all e = rw (le-leb _ _ all, ← is, e)

  module _ {m : CodeMark} (some_is : o ≡ Std.Some m) where
    pub reads : {r : Result Record Reason} → 2 ≤ length rest → Reads r rest (read_as (mark m) (state_in last t) rest)
        → Reads r rest (read_record (state_in last t) rest)
    unfolding read_record check need
    reads all h = rw (le-leb _ _ all, ← is, some_is) h

    -- an inner mark comes only where one has begun
    pub begun : Inner (mark m) → Underway last t → 0 < byte t skeleton_count
    begun i u =
        let e : some (mark m) ≡ marked last rest = rw some_is at is in
        u.begun (inside (get_or rest 0 0) (get_or rest 1 0) last (mark m) i (sym e))

-- what a reader is told, in place of what the definition counts
module _ (last : Option Mark) (t rest : List ℕ) {r : Result Record Reason} where
  pub told_SK : (n : ℕ) → n ≡ byte t skeleton_count → Reads r rest (read_SK n) → Reads r rest (read_as SK (state_in last t) rest)
  unfolding read_as
  told_SK n q h = subst (λ m. Reads r rest (read_SK m)) (q ∙ sym (length-drawn t (byte t skeleton_count))) h

  module _ (k : ℕ) (last_is : k + 1 ≡ byte t skeleton_count) where
    pub told_ST : (n m : ℕ) → n ≡ byte t term_count → m ≡ byte t (block k + strand_count) → Reads r rest (read_ST n m rest)
        → Reads r rest (read_as ST (state_in last t) rest)
    unfolding read_as
    told_ST n m p q h =
        rw (at_work t k last_is last, length_strands t (block k), length-rows (byte t term_count) t, ← p, ← q) h

    pub told_OR : Reads r rest (read_OR (skeleton_in t k) rest) → Reads r rest (read_as OR (state_in last t) rest)
    unfolding read_as
    told_OR h = subst (λ K. Reads r rest (read_OR K rest)) (sym (at_work t k last_is last)) h

    pub told_atom : (which : Assumed) (m : ℕ) → m ≡ byte t (block k + count_place which)
        → Reads r rest (read_atom (most which) (atom_record which) (rows_in t) m rest)
        → Reads r rest (read_as (atom_mark which) (state_in last t) rest)
    unfolding read_as
    told_atom Assumed.Non m q h = rw (at_work t k last_is last, length_nons t (block k), ← q) h
    told_atom Assumed.Uniq m q h = rw (at_work t k last_is last, length_uniqs t (block k), ← q) h

pub ruleset nexts = (too_short, no_such, reads, begun, told_SK, told_ST, told_OR, told_atom, refuses, tells)
