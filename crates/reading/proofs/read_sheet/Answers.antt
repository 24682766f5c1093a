-- `reading::read_sheet` meets its contract. The loop's invariant: whatever outcome reading has from here on, it has from the
-- start.
-- Assumes nothing.
use Rattle.std.proofs.Common.{rules, arith, ◌≡◌, refl}
use Rattle.std.specs.Prelude.{Err}
use Rattle.records.specs.Marks.{last_of}
use Rattle.reading.proofs.Keeps.{at_start}
use Rattle.reading.proofs.Reached.{reached_start, turn, reached_fault, reached_more, reached_end}
use Rattle.reading.proofs.read_sheet.Goals as goal

pub loop-last-init : goal.loop-last-init
loop-last-init c =
    let s = at_start c.clear.ensures in
    (reached_start _ _ s.0, s.1)

pub returns-in_default : goal.returns-in_default
returns-in_default c =
    let l = c.loop-last in
    let e : c.map_err.result ≡ Err (record { reason = c.in_default.field-0; place = l.at }) = search rules in
    record {
      reads = rw e (reached_fault l.table (last_of l.last) l.invariant.0 c.read_record-answer.ensures (cc) _ c.in_default.is);
      filled = l.invariant.1.filled;
    }

pub keep-requires : goal.keep-requires
keep-requires c =
    let l = c.loop-last in
    let i = l.invariant in
    let t = turn l.table (last_of l.last) i.0 c.read_record-answer.ensures (cc) i.1 c.in-Ok.is _ refl in
    (i.1.filled, t.has_room)

pub overflow_add-at : goal.overflow_add-at
overflow_add-at c =
    let l = c.loop-last in
    let i = l.invariant in
    let t = turn l.table (last_of l.last) i.0 c.read_record-answer.ensures (cc) i.1 c.in-Ok.is _ (c.size.ensures _) in
    omega (arith, t.after_it.within)

pub loop-last-smaller : goal.loop-last-smaller
loop-last-smaller c =
    let l = c.loop-last in
    let i = l.invariant in
    let t = turn l.table (last_of l.last) i.0 c.read_record-answer.ensures (cc) i.1 c.in-Ok.is _ (c.size.ensures _) in
    omega (arith, t.after_it.within, t.moves)

pub loop-last-preserved : goal.loop-last-preserved
loop-last-preserved c =
    let l = c.loop-last in
    let i = l.invariant in
    let t = turn l.table (last_of l.last) i.0 c.read_record-answer.ensures (cc) i.1 c.in-Ok.is _ (c.size.ensures _) in
    let k = c.keep.ensures in
    (rw (k.goes_on (last_of l.last)) t.after_it, k.underway)

pub returns-then-at-bytes : goal.returns-then-at-bytes
returns-then-at-bytes c =
    let l = c.loop-last in
    let i = l.invariant in
    record { reads = reached_more l.table (last_of l.last) i.0 (cc) (omega arith); filled = i.1.filled }

pub returns : goal.returns
returns c =
    let l = c.loop-last in
    let i = l.invariant in
    record { reads = reached_end l.table (last_of l.last) i.0 (cc) (omega arith); filled = i.1.filled }
