-- How far a sheet is read: whatever outcome reading has from here on, it has from the start. The laws by which the loop goes on,
-- and ends.
use Prim.Native.Nat.{ℕ, zero, suc, ◌+◌, ◌-◌, ◌≤◌, ◌<◌}
use mathlib.Core.Path.{◌≡◌, refl, sym, subst}
use mathlib.Core.Bool.{true, false}
use mathlib.Core.List.{List}
use mathlib.Core.Option.{Option}
use native.Mathlib.Omega.{arith}
use lib.ListN.{length, take, drop, length-drop, drop_of_length-le}
use lib.Seq.{take_all, drop-drop, drop-cons}
use Rattle.std.specs.Prelude.{Result, Ok, Err}
use Rattle.model.specs.Lists.{upto, reversed}
use Rattle.model.specs.Says.{number_of}
use Rattle.model.specs.declared.Reason.{Reason}
use Rattle.model.specs.Reading as Model
use Rattle.model.specs.Reading.{State, Mark, start, size, refuse, says, after, read_record, is_end, ended, sheet_of, Read, at_end, beyond, at_fault, next, read, fault}
use Rattle.tables.specs.Layout.{skeleton_count}
use Rattle.tables.specs.Tables.{byte, skeleton_in, drawn_in, sheet_in}
use Rattle.records.specs.Said.{record_of, Whole, Reads}
use Rattle.records.specs.declared.readers.Record.{Record}
use Rattle.reading.specs.States.{state_in, Underway, Room}
use Rattle.reading.proofs.Told.{Told, told}
use Rattle.reading.proofs.Rooms.{room, size_most, size_some}

-- the remainder as the code lends it, `&bytes[at..]`
abbrev pub part : List ℕ → ℕ → List ℕ
part bytes at = take (length bytes - at) (drop at bytes)

part_all : (bytes : List ℕ) (at : ℕ) → part bytes at ≡ drop at bytes
part_all bytes at = take_all (length bytes - at) (drop at bytes) (rw length-drop (omega arith))

pub record Reached (bytes : List ℕ) (s : State) (at : ℕ) : Type 0 where
  pub within : at ≤ length bytes
  pub onward : (out : Model.Reading) → Read s at (drop at bytes) out → Read start 0 bytes out

pub reached_start : (bytes : List ℕ) (s : State) → s ≡ start → Reached bytes s 0
reached_start bytes s e = record { within = omega arith; onward = λ out r. rw e at r }

-- the sheet that the table holds
turned : (t : List ℕ) (n : ℕ) → reversed (drawn_in t n) ≡ upto n (skeleton_in t)
unfolding reversed drawn_in upto
turned t zero = refl
turned t (suc n) = rw (turned t n)

sheet_is : (last : Option Mark) (t : List ℕ) → sheet_of (state_in last t) ≡ sheet_in t
unfolding sheet_of sheet_in
sheet_is last t = rw (turned t (byte t skeleton_count))

module _ (t : List ℕ) (last : Option Mark) {bytes : List ℕ} {at : ℕ} (R : Reached bytes (state_in last t) at) where
  -- a turn of the loop, where the record is good and takes n bytes: there is room for it, it is within the bytes, reading goes on
  -- after it, and less is left
  pub record Turn (said : Record) (n : ℕ) : Type 0 where
    pub has_room : Room t said (part bytes at)
    pub moves : at < at + n
    pub after_it : Reached bytes (after (state_in last t) (record_of said (part bytes at))) (at + n)

  module _ {answer : Result Record Reason} (reads : Reads answer (part bytes at) (read_record (state_in last t) (part bytes at)))
      (going : is_end last ≡ false) where
    pub turn : {said : Record} → Underway last t → answer ≡ Ok said → (n : ℕ) → n ≡ size (record_of said (part bytes at))
        → Turn said n
    unfolding ended
    turn {said} u is n e =
        let s = state_in last t in
        let r = record_of said (part bytes at) in
        let q : read_record s (part bytes at) ≡ says r = rw is at (sym reads.same) in
        let w : Whole said = rw is at reads.whole in
        let h : Told s (part bytes at) (says r) = subst (Told s (part bytes at)) q (told s (part bytes at)) in
        let long : length (part bytes at) ≡ length bytes - at = rw (part_all bytes at, length-drop) in
        let l : size r ≤ length (part bytes at) = size_most s (part bytes at) r h in
        let q' : read_record s (drop at bytes) ≡ says r = subst (λ l. read_record s l ≡ says r) (part_all bytes at) q in
        record {
          has_room = room last t (part bytes at) u said w h;
          moves = omega (arith, size_some r, e);
          after_it = record {
            within = omega (arith, R.within, l, long, e);
            onward = λ out o. R.onward out (next going q' (rw (drop-drop (size r) at bytes, ← e) o));
          };
        }

    pub reached_fault : (reason : Reason) → answer ≡ Err reason → Read start 0 bytes (fault (number_of reason) at)
    unfolding ended
    reached_fault reason is =
        let q : read_record (state_in last t) (part bytes at) ≡ refuse (number_of reason) = rw is at (sym reads.same) in
        R.onward _ (at_fault going (rw part_all at q))

  module _ (done : is_end last ≡ true) where
    pub reached_more : at < length bytes → Read start 0 bytes (fault 8 at)
    unfolding ended
    reached_more l = R.onward _ (rw (drop-cons bytes at 0 l) (beyond done))

    -- the whole sheet is read
    pub reached_end : length bytes ≤ at → Read start 0 bytes (read (sheet_in t))
    unfolding ended
    reached_end l = rw (← sheet_is last t) (R.onward _ (rw (drop_of_length-le bytes l) (at_end done)))
