-- A good record has room in the table, and takes two bytes or more of the remainder, and no more than there are.
use Prim.Native.Nat.{ℕ, zero, suc, ◌+◌, ◌≤◌, ◌<◌}
use mathlib.Core.Path.{◌≡◌}
use mathlib.Core.List.{List}
use mathlib.Core.Option.{Option}
use native.Mathlib.Numerals.{add-one}
use native.Mathlib.Omega.{arith}
use lib.ListN.{length}
use Rattle.model.specs.Reading as Reading
use Rattle.model.specs.Skeleton.{Skeleton}
use Rattle.model.specs.Reading.{edition, term, begin, strand, order, non, uniq, end, size, says}
use Rattle.tables.specs.Layout.{skeleton_count, block, strand_count, order_count, non_count, uniq_count}
use Rattle.tables.specs.Tables.{skeleton_at, byte}
use Rattle.tables.specs.declared.blocks.Assumed.{Assumed}
use Rattle.theory.specs.Upto.{length-upto}
use Rattle.tables.proofs.Look.{length-rows, length_strands, length-orders, length_nons, length_uniqs, length-drawn}
use Rattle.records.specs.Said.{record_of, Whole}
use Rattle.records.specs.declared.readers.Record.{Record}
use Rattle.reading.specs.States.{state_in, Inside, Underway, InWork, Room}
use Rattle.reading.proofs.Keeps.{at_work}
use Rattle.reading.proofs.Told.{Told}

some_k : (n : ℕ) → 0 < n → (k : ℕ) × (k + 1 ≡ n)
some_k zero l = absurd (omega arith)
some_k (suc n) l = (n, add-one n)

module _ (last : Option Reading.Mark) (t rest : List ℕ) (u : Underway last t) where
  -- where the definition counts less than the most of a skeleton's records, the table does
  in_work_room : (count most : ℕ) (counts : Skeleton ℕ → ℕ) → ((b : ℕ) → counts (skeleton_at t b) ≡ byte t (b + count))
      → Inside last → counts (Reading.in_work (state_in last t)) < most → InWork t count most
  in_work_room count most counts same i h =
      let k = some_k (byte t skeleton_count) (u.begun i) in
      record { k = k.0; last = k.1; room = rw (at_work t k.0 k.1 last, same (block k.0)) at h }

  pub room : (said : Record) → Whole said → Told (state_in last t) rest (says (record_of said rest)) → Room t said rest
  room Record.Edition w h = tt
  room (Record.Term row) w h = (rw length-rows at h.0, w)
  room Record.Begin w h = rw length-drawn at h.0
  room (Record.Strand height) w h = (
    in_work_room strand_count 6 (λ K. length K.strands) (length_strands t) h.3 h.0,
    rw length-upto at h.1,
    rw length-upto at h.2,
  )
  room (Record.Order send reception) w h = in_work_room order_count 64 (λ K. length K.order) (length-orders t) h.2 h.0
  room (Record.Atom Assumed.Non atom) w h = in_work_room non_count 32 (λ K. length K.non) (length_nons t) h.2 h.0
  room (Record.Atom Assumed.Uniq atom) w h = in_work_room uniq_count 32 (λ K. length K.uniq) (length_uniqs t) h.2 h.0
  room Record.End w h = u.begun h.1

pub size_most : (s : Reading.State) (rest : List ℕ) (r : Reading.Record) → Told s rest (says r) → size r ≤ length rest
unfolding size
size_most s rest edition h = h
size_most s rest (term r) h = h.1
size_most s rest begin h = h.1
size_most s rest (strand t) h = h.2
size_most s rest (order m n) h = h.1
size_most s rest (non a) h = h.1
size_most s rest (uniq a) h = h.1
size_most s rest end h = h.0

pub size_some : (r : Reading.Record) → 2 ≤ size r
unfolding size
size_some edition = omega arith
size_some (term r) = omega arith
size_some begin = omega arith
size_some (strand t) = omega arith
size_some (order m n) = omega arith
size_some (non a) = omega arith
size_some (uniq a) = omega arith
size_some end = omega arith
