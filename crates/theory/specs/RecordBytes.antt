-- The bytes of a record: it is read from them, and from no others.
use Rattle.std.specs.Prelude.{◌≡◌, Bool, true, false, not, cond, ◌&&◌, ◌||◌, T, ltb, eqb, drop}
use Rattle.std.proofs.Math.Path.{refl, ap}
use Rattle.std.proofs.Common.{ap₂, ◌∙◌, sym as back, leb→le, lt→ltb, le→leb, eqb→eq, drop-cons}
use mathlib.Core.List.{List, [], ◌∷◌, ◌++◌, append_assoc}
use Rattle.std.proofs.Math.Option.{some}
use Prim.Native.Nat.{ℕ, zero, suc, ◌+◌, ◌*◌, ◌≤◌, ◌<◌}
use native.Mathlib.Omega.{arith}
use Rattle.std.proofs.Math.Dec.{leb, eqb_refl}
use Rattle.std.proofs.Math.ListN.{length, get_or, get_elem?, length-append}
use Rattle.std.proofs.Math.Seq.{ext_get_or}
use Rattle.model.specs.Limits.{most_terms, most_skeletons, most_strands, most_height, most_orders, most_nons, most_uniqs}
use Rattle.model.specs.Lists.{upto, every, some_of}
use Rattle.model.specs.Table.{Row, Tag, Mesg, Text, Datum, Name, Skey, Akey, Pubk, Inv, Ltk, Pair, Enc, Hash, row, kind, first, second, row_of_kind, earlier, sorted}
use Rattle.model.specs.Skeleton.{Event, send, recv, message, Node, Skeleton}
use Rattle.model.specs.Reading.{Mark, BS, TM, SK, ST, OR, NO, UO, EN, mark_bytes, may_follow, Record, edition, begin, end, term, strand, order, non, uniq, size, State, in_work, Said, says, check, need, read_BS, on_sheet, read_row, read_TM, read_SK, event, event_in, event_right, read_ST, event_at, sends, receives, read_OR, an_atom, read_atom, read_as, marked_as, read_record}
use Rattle.theory.specs.Tests.{both, pair_up}
use Rattle.theory.specs.Each.{Each}
use Rattle.theory.specs.Places.{not_there, listed_at}
use Rattle.theory.specs.GoodTable.{row_of_bytes}
use Rattle.theory.specs.ListTests.{every_true, true_every}
use Rattle.theory.specs.Upto.{length-upto, upto_at}
use Rattle.theory.specs.Records.{mark_of, passed, given, told_as, same_mark, may, Right, RightRow, RightStrand, RightOrder, RightAtom, Allowed}

-- a direction and a term for each event
unfoldable pub event_bytes : List (Event ℕ) → List ℕ
event_bytes [] = []
event_bytes (send t ∷ es) = 0 ∷ t ∷ event_bytes es
event_bytes (recv t ∷ es) = 1 ∷ t ∷ event_bytes es

-- what stands after the mark
unfoldable pub fields : Record → List ℕ
unfolding event_bytes kind first second
fields edition = 1 ∷ []
fields (term r) = kind r ∷ first r ∷ second r ∷ []
fields begin = []
fields (strand t) = length t ∷ event_bytes t
fields (order m n) = m.strand ∷ m.position ∷ n.strand ∷ n.position ∷ []
fields (non t) = t ∷ []
fields (uniq t) = t ∷ []
fields end = []

unfoldable pub encode : Record → List ℕ
unfolding mark_bytes mark_of fields
encode r = (mark_bytes (mark_of r)).0 ∷ (mark_bytes (mark_of r)).1 ∷ fields r

pub length-events : (t : List (Event ℕ)) → length (event_bytes t) ≡ 2 * length t
unfolding event_bytes
length-events [] = refl
length-events (send u ∷ es) = omega (arith, length-events es)
length-events (recv u ∷ es) = omega (arith, length-events es)

pub length-encode : (r : Record) → length (encode r) ≡ size r
unfolding encode fields size
length-encode edition = refl
length-encode (term r) = refl
length-encode begin = refl
length-encode (strand t) = omega (arith, length-events t)
length-encode (order m n) = refl
length-encode (non t) = refl
length-encode (uniq t) = refl
length-encode end = refl

-- WHAT IS READ ARE ITS BYTES

drop_next : (l : List ℕ) (j k : ℕ) → k ≡ suc j → j < length l → drop j l ≡ get_or l j 0 ∷ drop k l
drop_next l j k e h = rw e (drop-cons l j 0 h)

starts_said : {q r : Record} (rest : List ℕ) → says q ≡ says r → drop 2 rest ≡ fields q ++ drop (size q) rest
    → drop 2 rest ≡ fields r ++ drop (size r) rest
starts_said {q} {r} rest e h = let x : q ≡ r = cc in rw x at h

bytes_BS : (rest : List ℕ) {r : Record} → read_BS rest ≡ says r → drop 2 rest ≡ fields r ++ drop (size r) rest
unfolding read_BS fields size
bytes_BS rest e =
    let p = passed (leb 3 (length rest)) 1 _ e in
    let q = passed (eqb (get_or rest 2 0) 1) 3 _ p.then in
    let l : 3 ≤ length rest = leb→le _ _ p.test in
    starts_said rest q.then (drop-cons rest 2 0 (omega arith) ∙ ap (λ b. b ∷ drop 3 rest) (eqb→eq _ _ q.test))

-- a row has its kind and its first byte
record HasBytes (k a : ℕ) (r : Row) : Type 0 where
  kind_is : kind r ≡ k
  first_is : first r ≡ a

AllBytes : ℕ → ℕ → List Row → Type 0
AllBytes n a [] = Unit {0}
AllBytes n a (r ∷ l) = HasBytes n a r × AllBytes (suc n) a l

bytes_at : (a : ℕ) (l : List Row) (n k p : ℕ) {r : Row} → p ≡ n + k → AllBytes n a l → get_elem? l k ≡ some r → HasBytes p a r
unfolding AllBytes
bytes_at a [] n k p z h e = absurd (not_there e)
bytes_at a (q ∷ l) n zero p {r} z h e =
    let x : q ≡ r = cc in
    let y : p ≡ n = omega arith in
    rw (← x, y) h.0
bytes_at a (q ∷ l) n (suc k) p z h e = bytes_at a l (suc n) k p (omega arith) h.1 e

bytes_are : {k a : ℕ} {r : Row} → kind r ≡ k → first r ≡ a → HasBytes k a r
bytes_are e f = record { kind_is = e; first_is = f }

-- each kind in its place
has_bytes : (k a b : ℕ) {r : Row} → row_of_kind k a b ≡ some r → HasBytes k a r
unfolding row_of_kind AllBytes kind first
has_bytes k a b e =
    let l : List Row = Tag a ∷ Mesg a ∷ Text a ∷ Datum a ∷ Name a ∷ Skey a ∷ Akey a ∷ Pubk a ∷ Inv a ∷ Ltk a b ∷ Pair a b ∷ Enc a
    b ∷ Hash a ∷ [] in
    bytes_at a l 0 k k (omega arith) (
      bytes_are refl refl,
      (
        bytes_are refl refl,
        (
          bytes_are refl refl,
          (
            bytes_are refl refl,
            (
              bytes_are refl refl,
              (
                bytes_are refl refl,
                (
                  bytes_are refl refl,
                  (
                    bytes_are refl refl,
                    (
                      bytes_are refl refl,
                      (
                        bytes_are refl refl,
                        (bytes_are refl refl, (bytes_are refl refl, (bytes_are refl refl, tt))),
                      ),
                    ),
                  ),
                ),
              ),
            ),
          ),
        ),
      ),
    ) e

bytes_TM : (rows : List Row) (rest : List ℕ) {r : Record} → read_TM rows rest ≡ says r
    → drop 2 rest ≡ fields r ++ drop (size r) rest
unfolding read_TM read_row fields size
bytes_TM rows rest e =
    let p = passed (ltb (length rows) most_terms) 4 _ e in
    let q = passed (leb 5 (length rest)) 1 _ p.then in
    let l : 5 ≤ length rest = leb→le _ _ q.test in
    let g = given (row_of_kind (get_or rest 2 0) (get_or rest 3 0) (get_or rest 4 0)) 5 _ q.then in
    let a = passed (eqb (second g.what) (get_or rest 4 0)) 5 _ g.then in
    let b = passed (earlier (length rows) g.what && sorted (row rows) g.what) 5 _ a.then in
    let c = passed (not (on_sheet rows g.what)) 6 _ b.then in
    let h = has_bytes (get_or rest 2 0) (get_or rest 3 0) (get_or rest 4 0) g.is in
    let z : second g.what ≡ get_or rest 4 0 = eqb→eq _ _ a.test in
    starts_said rest c.then
    (rw (
      h.kind_is,
      h.first_is,
      z,
      drop-cons rest 2 0 (omega arith),
      drop-cons rest 3 0 (omega arith),
      drop-cons rest 4 0
          (omega arith),
    ) refl)

-- the events
event_bytes_snoc : (t : List (Event ℕ)) (d u : ℕ) → d ≤ 1 → event_bytes (t ++ (event d u ∷ [])) ≡ event_bytes t ++ (d ∷ u ∷ [])
unfolding event_bytes event
event_bytes_snoc [] zero u h = refl
event_bytes_snoc [] (suc zero) u h = refl
event_bytes_snoc [] (suc (suc d)) u h = absurd (omega arith)
event_bytes_snoc (send v ∷ es) d u h = rw (event_bytes_snoc es d u h) refl
event_bytes_snoc (recv v ∷ es) d u h = rw (event_bytes_snoc es d u h) refl

bytes_events : (rest : List ℕ) (h : ℕ) → 3 + 2 * h ≤ length rest → ((i : ℕ) → i < h → get_or rest (3 + 2 * i) 0 ≤ 1)
    → drop 3 rest ≡ event_bytes (upto h (event_in rest)) ++ drop (3 + 2 * h) rest
unfolding upto event_in event_bytes
bytes_events rest zero l f = refl
bytes_events rest (suc h) l f =
    let IH = bytes_events rest h (omega arith) (λ i k. f i (omega arith)) in
    let a : drop (3 + 2 * h) rest ≡ get_or rest (3 + 2 * h) 0 ∷ drop (4 + 2 * h) rest =
    drop_next rest (3 + 2 * h) (4 + 2 * h) (omega arith) (omega arith) in
    let b : drop (4 + 2 * h) rest ≡ get_or rest (4 + 2 * h) 0 ∷ drop (3 + 2 * suc h) rest =
    drop_next rest (4 + 2 * h) (3 + 2 * suc h) (omega arith) (omega arith) in
    IH ∙ rw (
      event_bytes_snoc (upto h (event_in rest)) (get_or rest (3 + 2 * h) 0) (get_or rest (4 + 2 * h) 0) (f h (omega arith)),
      a,
      b,
    ) (back (append_assoc (event_bytes (upto h (event_in rest))) _ _))

bytes_ST : (terms strands : ℕ) (rest : List ℕ) {r : Record} → read_ST terms strands rest ≡ says r
    → drop 2 rest ≡ fields r ++ drop (size r) rest
unfolding read_ST fields size event_right
bytes_ST terms strands rest e =
    let h = get_or rest 2 0 in
    let p = passed (ltb strands most_strands) 4 _ e in
    let q = passed (leb 3 (length rest)) 1 _ p.then in
    let a = passed (leb 1 h && leb h most_height) 4 _ q.then in
    let b = passed (leb (3 + 2 * h) (length rest)) 1 _ a.then in
    let c = passed (every h (event_right terms rest)) 7 _ b.then in
    let l : 3 ≤ length rest = leb→le _ _ q.test in
    let f : (i : ℕ) → i < h → get_or rest (3 + 2 * i) 0 ≤ 1 = λ i k.
    leb→le _ _ (both (leb (get_or rest (3 + 2 * i) 0) 1) _ (every_true h (event_right terms rest) c.test i k)).0 in
    starts_said rest c.then
    (rw length-upto (drop-cons rest 2 0 (omega arith) ∙ ap (λ x. h ∷ x) (bytes_events rest h (leb→le _ _ b.test) f)))

bytes_OR : (K : Skeleton ℕ) (rest : List ℕ) {r : Record} → read_OR K rest ≡ says r → drop 2 rest ≡ fields r ++ drop (size r) rest
unfolding read_OR fields size
bytes_OR K rest e =
    let m : Node = record { strand = get_or rest 2 0; position = get_or rest 3 0 } in
    let n : Node = record { strand = get_or rest 4 0; position = get_or rest 5 0 } in
    let p = passed (ltb (length K.order) most_orders) 4 _ e in
    let q = passed (leb 6 (length rest)) 1 _ p.then in
    let a = passed (sends (event_at K m) && receives (event_at K n)) 7 _ q.then in
    let l : 6 ≤ length rest = leb→le _ _ q.test in
    starts_said rest a.then
    (rw (
      drop-cons rest 2 0 (omega arith),
      drop-cons rest 3 0 (omega arith),
      drop-cons rest 4 0 (omega arith),
      drop-cons rest 5 0
          (omega arith),
    ) refl)

bytes_atom : (most : ℕ) (rows : List Row) (there : ℕ) (rest : List ℕ) (says_of : ℕ → Record)
    → ((t : ℕ) → drop 2 rest ≡ t ∷ drop 3 rest → drop 2 rest ≡ fields (says_of t) ++ drop (size (says_of t)) rest)
    → {r : Record} → read_atom most says_of rows there rest ≡ says r
    → drop 2 rest ≡ fields r ++ drop (size r) rest
unfolding read_atom
bytes_atom most rows there rest says_of f e =
    let p = passed (ltb there most) 4 _ e in
    let q = passed (leb 3 (length rest)) 1 _ p.then in
    let a = passed (an_atom rows (get_or rest 2 0)) 7 _ q.then in
    let l : 3 ≤ length rest = leb→le _ _ q.test in
    starts_said rest a.then (f (get_or rest 2 0) (drop-cons rest 2 0 (omega arith)))

bytes_as : (m : Mark) (s : State) (rest : List ℕ) {r : Record} → read_as m s rest ≡ says r
    → drop 2 rest ≡ fields r ++ drop (size r) rest
unfolding read_as read_SK fields size
bytes_as BS s rest e = bytes_BS rest e
bytes_as TM s rest e = bytes_TM s.rows rest e
bytes_as SK s rest e = starts_said rest (passed (ltb (length s.drawn) most_skeletons) 4 _ e).then refl
bytes_as ST s rest e = bytes_ST (length s.rows) (length (in_work s).strands) rest e
bytes_as OR s rest e = bytes_OR (in_work s) rest e
bytes_as NO s rest e = bytes_atom most_nons s.rows (length (in_work s).non) rest non (λ t h. h) e
bytes_as UO s rest e = bytes_atom most_uniqs s.rows (length (in_work s).uniq) rest uniq (λ t h. h) e
bytes_as EN s rest e = starts_said rest e refl

-- the mark that was found has these bytes
record MarkIs (a b : ℕ) (m : Mark) : Type 0 where
  first_is : a ≡ (mark_bytes m).0
  second_is : b ≡ (mark_bytes m).1

mark_is : (a b : ℕ) (ms : List Mark) {m : Mark} → marked_as a b ms ≡ some m → MarkIs a b m
unfolding marked_as
mark_is a b [] e = absurd (not_there e)
mark_is a b (k ∷ ms) {m} e = go (eqb a (mark_bytes k).0 && eqb b (mark_bytes k).1) refl e (mark_is a b ms)
  where
    go : (t : Bool) → (eqb a (mark_bytes k).0 && eqb b (mark_bytes k).1) ≡ t → cond t (some k) (marked_as a b ms) ≡ some m
        → (marked_as a b ms ≡ some m → MarkIs a b m)
        → MarkIs a b m
    go true q h f =
        let z : k ≡ m = cc in
        let (x, y) = both (eqb a (mark_bytes k).0) (eqb b (mark_bytes k).1) (rw q tt) in
        rw (← z) (record { first_is = eqb→eq _ _ x; second_is = eqb→eq _ _ y })
    go false q h f = f h

pub record_bytes : (s : State) (rest : List ℕ) {r : Record} → read_record s rest ≡ says r → rest ≡ encode r ++ drop (size r) rest
unfolding read_record encode
record_bytes s rest {r} e =
    let p = passed (leb 2 (length rest)) 1 _ e in
    let l : 2 ≤ length rest = leb→le _ _ p.test in
    let g = given (marked_as (get_or rest 0 0) (get_or rest 1 0) (may_follow s.last)) 2 _ p.then in
    let k = mark_is (get_or rest 0 0) (get_or rest 1 0) (may_follow s.last) g.is in
    let t : mark_of r ≡ g.what = (told_as g.what s rest l g.then).mark in
    let b : drop 2 rest ≡ fields r ++ drop (size r) rest = bytes_as g.what s rest g.then in
    let x : get_or rest 0 0 ≡ (mark_bytes (mark_of r)).0 = k.first_is ∙ ap (λ m. (mark_bytes m).0) (back t) in
    let y : get_or rest 1 0 ≡ (mark_bytes (mark_of r)).1 = k.second_is ∙ ap (λ m. (mark_bytes m).1) (back t) in
    drop-cons rest 0 0 (omega arith) ∙ ap₂ ◌∷◌ x (drop-cons rest 1 0 (omega arith) ∙ ap₂ ◌∷◌ y b)

-- IT IS READ FROM ITS BYTES

check_passes : (b : Bool) (n : ℕ) (x : Said) → T b → check b n x ≡ x
unfolding check
check_passes true n x h = refl
check_passes false n x h = elim h [ ]

-- all bytes are there; there is room
enough : (k n : ℕ) (x : Said) → k ≤ n → check (leb k n) 1 x ≡ x
enough k n x h = check_passes (leb k n) 1 x (le→leb k n h)

has_room : (k n : ℕ) (x : Said) → k < n → check (ltb k n) 4 x ≡ x
has_room k n x h = check_passes (ltb k n) 4 x (lt→ltb k n h)

-- a mark is told by its bytes
same_mark_is : (m k : Mark) → T (same_mark m k) → m ≡ k
unfolding same_mark
same_mark_is BS BS h = refl
same_mark_is TM TM h = refl
same_mark_is SK SK h = refl
same_mark_is ST ST h = refl
same_mark_is OR OR h = refl
same_mark_is NO NO h = refl
same_mark_is UO UO h = refl
same_mark_is EN EN h = refl
same_mark_is _ _ h = elim h [ ]

finds_mark : (m : Mark) (ms : List Mark) → T (some_of (same_mark m) ms)
    → marked_as (mark_bytes m).0 (mark_bytes m).1 ms ≡ some m
unfolding marked_as some_of same_mark
finds_mark m (k ∷ ms) h =
    go (eqb (mark_bytes m).0 (mark_bytes k).0 && eqb (mark_bytes m).1 (mark_bytes k).1) refl (finds_mark m ms) h
  where
    go : (t : Bool) → (eqb (mark_bytes m).0 (mark_bytes k).0 && eqb (mark_bytes m).1 (mark_bytes k).1) ≡ t
        → (T (some_of (same_mark m) ms) → marked_as (mark_bytes m).0 (mark_bytes m).1 ms ≡ some m)
        → T (t || some_of (same_mark m) ms)
        → cond t (some k) (marked_as (mark_bytes m).0 (mark_bytes m).1 ms) ≡ some m
    go true q f h = ap some (back (same_mark_is m k (rw q tt)))
    go false q f h = f h
finds_mark m [] h = elim h [ ]

-- past a mark and a height
past_three : (a b c : ℕ) (l : List ℕ) (q p : ℕ) → q ≡ 3 + p → get_or (a ∷ b ∷ c ∷ l) q 0 ≡ get_or l p 0
past_three a b c l zero p e = absurd (omega arith)
past_three a b c l (suc zero) p e = absurd (omega arith)
past_three a b c l (suc (suc zero)) p e = absurd (omega arith)
past_three a b c l (suc (suc (suc q))) p e = let z : q ≡ p = omega arith in rw z refl

unfoldable direction : Event ℕ → ℕ
direction (send t) = 0
direction (recv t) = 1

event_again : (e : Event ℕ) → event (direction e) (message e) ≡ e
unfolding event direction message
event_again (send t) = refl
event_again (recv t) = refl

direction_low : (e : Event ℕ) → direction e ≤ 1
unfolding direction
direction_low (send t) = omega arith
direction_low (recv t) = omega arith

-- the two bytes of an event
bytes_of_event : (e : Event ℕ) (es : List (Event ℕ)) → event_bytes (e ∷ es) ≡ direction e ∷ message e ∷ event_bytes es
unfolding event_bytes direction message
bytes_of_event (send t) es = refl
bytes_of_event (recv t) es = refl

record EventAt (l : List ℕ) (p : ℕ) (e : Event ℕ) : Type 0 where
  direction_is : get_or l p 0 ≡ direction e
  message_is : get_or l (suc p) 0 ≡ message e

event_at_bytes : (t : List (Event ℕ)) (more : List ℕ) (i p : ℕ) → p ≡ 2 * i → i < length t
    → EventAt (event_bytes t ++ more) p (get_or t i (send 0))
event_at_bytes [] more i p e h = absurd (omega arith)
event_at_bytes (x ∷ t) more zero p e h =
    let z : p ≡ 0 = omega arith in
    rw (z, bytes_of_event x t) (record { direction_is = refl; message_is = refl })
event_at_bytes (x ∷ t) more (suc i) zero e h = absurd (omega arith)
event_at_bytes (x ∷ t) more (suc i) (suc zero) e h = absurd (omega arith)
event_at_bytes (x ∷ t) more (suc i) (suc (suc p)) e h =
    let k = event_at_bytes t more i p (omega arith) (omega arith) in
    rw (bytes_of_event x t) (record { direction_is = k.direction_is; message_is = k.message_is })

module _ (t : List (Event ℕ)) (more : List ℕ) (a b c : ℕ) where
  abbrev written : List ℕ
  written = a ∷ b ∷ c ∷ (event_bytes t ++ more)

  event_written : (i : ℕ) → i < length t → EventAt written (3 + 2 * i) (get_or t i (send 0))
  event_written i h =
      let k = event_at_bytes t more i (2 * i) refl h in
      record {
        direction_is = past_three a b c (event_bytes t ++ more) (3 + 2 * i) (2 * i) refl ∙ k.direction_is;
        message_is = past_three a b c (event_bytes t ++ more) (suc (3 + 2 * i)) (suc (2 * i)) (omega arith) ∙ k.message_is;
      }

  events_read : upto (length t) (event_in written) ≡ t
  unfolding event_in
  events_read =
      ext_get_or (send 0) (upto (length t) (event_in written)) t (length-upto (length t) (event_in written)) λ i h.
      let l : i < length t = rw length-upto at h in
      let k = event_written i l in
      let z : get_or written (4 + 2 * i) 0 ≡ message (get_or t i (send 0)) =
      let q : 4 + 2 * i ≡ suc (3 + 2 * i) = omega arith in
      ap (λ p. get_or written p 0) q ∙ k.message_is in
      upto_at (length t) (event_in written) (send 0) i l ∙ (ap₂ event k.direction_is z ∙ event_again (get_or t i (send 0)))

  events_right : (terms : ℕ) → Each (λ e. message e < terms) t → T (every (length t) (event_right terms written))
  unfolding event_right
  events_right terms f =
      true_every (length t) (event_right terms written) λ i h.
      let k = event_written i h in
      let e = get_or t i (send 0) in
      let z : get_or written (4 + 2 * i) 0 ≡ message e =
      let q : 4 + 2 * i ≡ suc (3 + 2 * i) = omega arith in
      ap (λ p. get_or written p 0) q ∙ k.message_is in
      pair_up (leb (get_or written (3 + 2 * i) 0) 1) (ltb (get_or written (4 + 2 * i) 0) terms)
      (le→leb (get_or written (3 + 2 * i) 0) 1 (rw k.direction_is (direction_low e)))
      (lt→ltb (get_or written (4 + 2 * i) 0) terms (rw z (f e (listed_at t i (send 0) h))))

module _ (s : State) (more : List ℕ) where
  reads_BS : read_as BS s (encode edition ++ more) ≡ says edition
  unfolding read_as read_BS encode fields
  reads_BS =
      enough 3 (length (encode edition ++ more)) _ (omega arith) ∙ check_passes (eqb 1 1) 3 _ (eqb_refl 1)

  reads_TM : (r : Row) → RightRow s.rows r → read_as TM s (encode (term r) ++ more) ≡ says (term r)
  unfolding read_as read_TM read_row encode fields need
  reads_TM r h =
      has_room (length s.rows) most_terms _ h.room
      ∙ (enough 5 (length (encode (term r) ++ more)) _ (omega arith)
      ∙ rw (row_of_bytes r)
      (check_passes (eqb (second r) (second r)) 5 _ (eqb_refl (second r))
      ∙ (check_passes (earlier (length s.rows) r && sorted (row s.rows) r) 5 _
      (pair_up (earlier (length s.rows) r) _ h.earlier_args h.sorted_args)
      ∙ check_passes (not (on_sheet s.rows r)) 6 _ h.new)))

  reads_SK : length s.drawn < most_skeletons → read_as SK s (encode begin ++ more) ≡ says begin
  unfolding read_as read_SK
  reads_SK h = has_room (length s.drawn) most_skeletons _ h

  reads_ST : (t : List (Event ℕ)) → RightStrand (length s.rows) (length (in_work s).strands) t
      → read_as ST s (encode (strand t) ++ more) ≡ says (strand t)
  unfolding read_as read_ST encode fields
  reads_ST t h =
      let r = h.right in
      let rest : List ℕ = 0x53 ∷ 0x54 ∷ length t ∷ (event_bytes t ++ more) in
      let l : 3 + 2 * length t ≤ length rest = simp length-append (omega (arith, length-events t)) in
      has_room (length (in_work s).strands) most_strands _ h.room
      ∙ (enough 3 (length rest) _ (omega arith)
      ∙ (check_passes (leb 1 (length t) && leb (length t) most_height) 4 _
      (pair_up (leb 1 (length t)) _ (le→leb _ _ r.some_event) (le→leb _ _ r.low))
      ∙ (enough (3 + 2 * length t) (length rest) _ l
      ∙ (check_passes (every (length t) (event_right (length s.rows) rest)) 7 _
      (events_right t more 0x53 0x54 (length t) (length s.rows) r.known)
      ∙ ap (λ u. says (strand u)) (events_read t more 0x53 0x54 (length t))))))

  reads_OR : (m n : Node) → RightOrder (in_work s) m n → read_as OR s (encode (order m n) ++ more) ≡ says (order m n)
  unfolding read_as read_OR encode fields
  reads_OR m n h =
      let K = in_work s in
      has_room (length K.order) most_orders _ h.room
      ∙ (enough 6 (length (encode (order m n) ++ more)) _ (omega arith)
      ∙ check_passes (sends (event_at K m) && receives (event_at K n)) 7 _ (pair_up (sends (event_at K m)) _ h.from h.to))

  reads_atom : (most : ℕ) (says_of : ℕ → Record) (there a b t : ℕ) → RightAtom most s.rows there t
      → read_atom most says_of s.rows there (a ∷ b ∷ t ∷ more) ≡ says (says_of t)
  unfolding read_atom
  reads_atom most says_of there a b t h =
      has_room there most _ h.room
      ∙ (enough 3 (length (a ∷ b ∷ t ∷ more)) _ (omega arith)
      ∙ check_passes (an_atom s.rows t) 7 _ h.atom)

  reads_NO : (t : ℕ) → RightAtom most_nons s.rows (length (in_work s).non) t
      → read_as NO s (encode (non t) ++ more) ≡ says (non t)
  unfolding read_as encode fields
  reads_NO t h = reads_atom most_nons non (length (in_work s).non) 0x4e 0x4f t h

  reads_UO : (t : ℕ) → RightAtom most_uniqs s.rows (length (in_work s).uniq) t
      → read_as UO s (encode (uniq t) ++ more) ≡ says (uniq t)
  unfolding read_as encode fields
  reads_UO t h = reads_atom most_uniqs uniq (length (in_work s).uniq) 0x55 0x4f t h

  reads_EN : read_as EN s (encode end ++ more) ≡ says end
  unfolding read_as
  reads_EN = refl

  reads_as : (r : Record) → Right s r → read_as (mark_of r) s (encode r ++ more) ≡ says r
  unfolding mark_of Right
  reads_as edition h = reads_BS
  reads_as (term r) h = reads_TM r h
  reads_as begin h = reads_SK h
  reads_as (strand t) h = reads_ST t h
  reads_as (order m n) h = reads_OR m n h
  reads_as (non t) h = reads_NO t h
  reads_as (uniq t) h = reads_UO t h
  reads_as end h = reads_EN

  pub reads_record : (r : Record) → Allowed s r → read_record s (encode r ++ more) ≡ says r
  unfolding read_record encode may need
  reads_record r h =
      enough 2 (length (encode r ++ more)) _ (omega arith)
      ∙ rw (finds_mark (mark_of r) (may_follow s.last) h.next) (reads_as r h.right)
