-- A sheet from bytes, record by record: the sheet, or refusal 1 to 8 with its place. "Reading stops at the first faulty
-- record: mark (2; fewer than two bytes, 1), count (4), completeness (1; for ST height byte 1, its range 4, events 1),
-- then 3, 5, 6 or 7." Places of 1 to 7: the offset where the record begins, or where the missing next one would.
use Rattle.std.specs.Prelude.{◌≡◌, Bool, true, false, not, cond, ◌&&◌, List, [], ◌∷◌, ◌++◌, ℕ, zero, suc, ◌+◌, ◌*◌, ltb, leb, eqb, length, get_or, drop}
use Rattle.std.proofs.Math.Option.{Option, none, some}
use Rattle.std.proofs.Math.ListN.{get_elem?}
use Rattle.model.specs.Limits.{most_terms, most_skeletons, most_strands, most_height, most_orders, most_nons, most_uniqs}
use Rattle.model.specs.Lists.{upto, every, some_of, reversed}
use Rattle.model.specs.Table.{Row, row, row_of_kind, second, alike, earlier, sorted, is_atom}
use Rattle.model.specs.Skeleton.{Event, send, recv, Node, Skeleton}
use Rattle.model.specs.Sheet.{Sheet, Refusal}

-- "A two-byte ASCII mark stands before each record"
pub data Mark : Type 0 where
  BS TM SK ST OR NO UO EN : Mark

unfoldable pub mark_bytes : Mark → ℕ × ℕ
mark_bytes BS = (0x42, 0x53)
mark_bytes TM = (0x54, 0x4d)
mark_bytes SK = (0x53, 0x4b)
mark_bytes ST = (0x53, 0x54)
mark_bytes OR = (0x4f, 0x52)
mark_bytes NO = (0x4e, 0x4f)
mark_bytes UO = (0x55, 0x4f)
mark_bytes EN = (0x45, 0x4e)

-- "Order: BS, the TMs (any number down to none), one or two skeletons, EN. A skeleton is SK, one or more ST, then OR,
-- NO and UO records in that order, any number of each down to none." What may come at the start, and after a record:
unfoldable pub may_follow : Option Mark → List Mark
may_follow none = BS ∷ []
may_follow (some BS) = TM ∷ SK ∷ []
may_follow (some TM) = TM ∷ SK ∷ []
may_follow (some SK) = ST ∷ []
may_follow (some ST) = ST ∷ OR ∷ NO ∷ UO ∷ SK ∷ EN ∷ []
may_follow (some OR) = OR ∷ NO ∷ UO ∷ SK ∷ EN ∷ []
may_follow (some NO) = NO ∷ UO ∷ SK ∷ EN ∷ []
may_follow (some UO) = UO ∷ SK ∷ EN ∷ []
may_follow (some EN) = []

-- What a record says
pub data Record : Type 0 where
  edition begin end : Record
  term : Row → Record
  strand : List (Event ℕ) → Record
  order : Node → Node → Record
  non uniq : ℕ → Record

-- how many bytes it takes, its mark included
unfoldable pub size : Record → ℕ
size edition = 3
size (term r) = 5
size begin = 2
size (strand t) = 3 + 2 * length t
size (order m n) = 6
size (non t) = 3
size (uniq t) = 3
size end = 2

-- What is read so far: the last record's mark, the terms, and the skeletons, the one in work first
pub record State : Type 0 where
  pub last : Option Mark
  pub rows : List Row
  pub drawn : List (Skeleton ℕ)

unfoldable pub start : State
start = record { last = none; rows = []; drawn = [] }

unfoldable pub blank : Skeleton ℕ
blank = record { strands = []; order = []; non = []; uniq = [] }

unfoldable pub in_work : State → Skeleton ℕ
unfolding blank
in_work s = get_or s.drawn 0 blank

-- A record's answer: refused with a number, or what it says
pub data Said : Type 0 where
  refuse : ℕ → Said
  says : Record → Said

unfoldable pub check : Bool → ℕ → Said → Said
check true n a = a
check false n a = refuse n

unfoldable pub need : {A : Type 0} → Option A → ℕ → (A → Said) → Said
need none n f = refuse n
need (some a) n f = f a

-- Each reader is given the remainder, which starts at its record's mark, and what it needs of what is read so far.

-- BS: "edition, 1"; "3: edition not 1"
unfoldable pub read_BS : List ℕ → Said
unfolding check
read_BS rest =
    check (leb 3 (length rest)) 1
    (check (eqb (get_or rest 2 0) 1) 3
    (says edition))

-- TM: "kind, a, b"; "5: term kind, argument or unused byte wrong"; "6: term already on the sheet"
unfoldable pub on_sheet : List Row → Row → Bool
unfolding some_of alike
on_sheet rows r = some_of (λ q. alike q r) rows

unfoldable pub read_row : List Row → ℕ → ℕ → ℕ → Said
unfolding check need row_of_kind second earlier sorted on_sheet
read_row rows k a b =
    need (row_of_kind k a b) 5 λ r.
    check (eqb (second r) b) 5
    (check (earlier (length rows) r && sorted (row rows) r) 5
    (check (not (on_sheet rows r)) 6
    (says (term r))))

unfoldable pub read_TM : List Row → List ℕ → Said
unfolding check read_row
read_TM rows rest =
    check (ltb (length rows) most_terms) 4
    (check (leb 5 (length rest)) 1
    (read_row rows (get_or rest 2 0) (get_or rest 3 0) (get_or rest 4 0)))

-- SK: "A third SK where a new skeleton could begin .. is 4". It is told how many skeletons there are
unfoldable pub read_SK : ℕ → Said
unfolding check
read_SK skeletons = check (ltb skeletons most_skeletons) 4 (says begin)

-- ST: "height h, then h times: direction (0 send, 1 receive), term"; "7: direction, term .. wrong". It is told how many
-- terms and strands there are
unfoldable pub event : ℕ → ℕ → Event ℕ
event zero t = send t
event (suc d) t = recv t

unfoldable pub event_in : List ℕ → ℕ → Event ℕ
unfolding event
event_in rest i = event (get_or rest (3 + 2 * i) 0) (get_or rest (4 + 2 * i) 0)

unfoldable pub event_right : ℕ → List ℕ → ℕ → Bool
event_right terms rest i = leb (get_or rest (3 + 2 * i) 0) 1 && ltb (get_or rest (4 + 2 * i) 0) terms

unfoldable pub read_ST : ℕ → ℕ → List ℕ → Said
unfolding check upto every event_in event_right
read_ST terms strands rest =
    let h = get_or rest 2 0 in
    check (ltb strands most_strands) 4
    (check (leb 3 (length rest)) 1
    (check (leb 1 h && leb h most_height) 4
    (check (leb (3 + 2 * h) (length rest)) 1
    (check (every h (event_right terms rest)) 7
    (says (strand (upto h (event_in rest))))))))

-- OR: "strand, position, strand, position"; "the OR pairs, which run from a send to a reception"; "7: .. node or OR
-- direction wrong"
unfoldable pub event_at : Skeleton ℕ → Node → Option (Event ℕ)
event_at K n = get_elem? (get_or K.strands n.strand []) n.position

unfoldable pub sends : Option (Event ℕ) → Bool
sends none = false
sends (some (send t)) = true
sends (some (recv t)) = false

unfoldable pub receives : Option (Event ℕ) → Bool
receives none = false
receives (some (send t)) = false
receives (some (recv t)) = true

unfoldable pub read_OR : Skeleton ℕ → List ℕ → Said
unfolding check event_at sends receives
read_OR K rest =
    let m : Node = record { strand = get_or rest 2 0; position = get_or rest 3 0 } in
    let n : Node = record { strand = get_or rest 4 0; position = get_or rest 5 0 } in
    check (ltb (length K.order) most_orders) 4
    (check (leb 6 (length rest)) 1
    (check (sends (event_at K m) && receives (event_at K n)) 7
    (says (order m n))))

-- NO, UO: "7: .. NO/UO not an atom". Each is told how many of its kind there are
unfoldable pub an_atom : List Row → ℕ → Bool
unfolding is_atom
an_atom rows t = ltb t (length rows) && is_atom (row rows t)

unfoldable pub read_atom : ℕ → (ℕ → Record) → List Row → ℕ → List ℕ → Said
unfolding check an_atom
read_atom most says_of rows there rest =
    check (ltb there most) 4
    (check (leb 3 (length rest)) 1
    (check (an_atom rows (get_or rest 2 0)) 7
    (says (says_of (get_or rest 2 0)))))

unfoldable pub read_as : Mark → State → List ℕ → Said
unfolding read_BS read_TM read_SK read_ST read_OR read_atom in_work
read_as BS s rest = read_BS rest
read_as TM s rest = read_TM s.rows rest
read_as SK s rest = read_SK (length s.drawn)
read_as ST s rest = read_ST (length s.rows) (length (in_work s).strands) rest
read_as OR s rest = read_OR (in_work s) rest
read_as NO s rest = read_atom most_nons non s.rows (length (in_work s).non) rest
read_as UO s rest = read_atom most_uniqs uniq s.rows (length (in_work s).uniq) rest
read_as EN s rest = says end

-- the mark among those that may follow
unfoldable pub marked_as : ℕ → ℕ → List Mark → Option Mark
unfolding mark_bytes
marked_as a b [] = none
marked_as a b (m ∷ ms) = cond (eqb a (mark_bytes m).0 && eqb b (mark_bytes m).1) (some m) (marked_as a b ms)

unfoldable pub read_record : State → List ℕ → Said
unfolding check need marked_as may_follow read_as
read_record s rest =
    check (leb 2 (length rest)) 1
    (need (marked_as (get_or rest 0 0) (get_or rest 1 0) (may_follow s.last)) 2 λ m. read_as m s rest)

-- What is read after a record: what it says comes after the rest of its kind

unfoldable pub redrawn : Mark → State → Skeleton ℕ → State
redrawn m s K = record { last = some m; rows = s.rows; drawn = K ∷ drop 1 s.drawn }

unfoldable pub with_strand : Skeleton ℕ → List (Event ℕ) → Skeleton ℕ
with_strand K t = record { strands = K.strands ++ (t ∷ []); order = K.order; non = K.non; uniq = K.uniq }

unfoldable pub with_order : Skeleton ℕ → Node → Node → Skeleton ℕ
with_order K m n = record { strands = K.strands; order = K.order ++ ((m, n) ∷ []); non = K.non; uniq = K.uniq }

unfoldable pub with_non : Skeleton ℕ → ℕ → Skeleton ℕ
with_non K t = record { strands = K.strands; order = K.order; non = K.non ++ (t ∷ []); uniq = K.uniq }

unfoldable pub with_uniq : Skeleton ℕ → ℕ → Skeleton ℕ
with_uniq K t = record { strands = K.strands; order = K.order; non = K.non; uniq = K.uniq ++ (t ∷ []) }

unfoldable pub after : State → Record → State
unfolding blank in_work redrawn with_strand with_order with_non with_uniq
after s edition = record { last = some BS; rows = s.rows; drawn = s.drawn }
after s (term r) = record { last = some TM; rows = s.rows ++ (r ∷ []); drawn = s.drawn }
after s begin = record { last = some SK; rows = s.rows; drawn = blank ∷ s.drawn }
after s (strand t) = redrawn ST s (with_strand (in_work s) t)
after s (order m n) = redrawn OR s (with_order (in_work s) m n)
after s (non t) = redrawn NO s (with_non (in_work s) t)
after s (uniq t) = redrawn UO s (with_uniq (in_work s) t)
after s end = record { last = some EN; rows = s.rows; drawn = s.drawn }

-- The whole sheet

pub data Reading : Type 0 where
  faulty : Refusal → Reading
  read : Sheet → Reading

abbrev pub fault : ℕ → ℕ → Reading
fault number place = faulty (record { number = number; place = place; skeleton = 0 })

unfoldable pub sheet_of : State → Sheet
unfolding reversed
sheet_of s = record { rows = s.rows; skeletons = reversed s.drawn }

unfoldable pub is_end : Option Mark → Bool
is_end none = false
is_end (some BS) = false
is_end (some TM) = false
is_end (some SK) = false
is_end (some ST) = false
is_end (some OR) = false
is_end (some NO) = false
is_end (some UO) = false
is_end (some EN) = true

unfoldable pub ended : State → Bool
unfolding is_end
ended s = is_end s.last

-- "The sheet is read record by record, each reader given only the remainder": from this state, at this offset, with
-- this remainder. "8: bytes after EN; first such byte"
pub data Read : State → ℕ → List ℕ → Reading → Type 0 where
  at_end : {s : State} {place : ℕ} → ended s ≡ true → Read s place [] (read (sheet_of s))
  beyond : {s : State} {place b : ℕ} {l : List ℕ} → ended s ≡ true → Read s place (b ∷ l) (fault 8 place)
  at_fault : {s : State} {place n : ℕ} {rest : List ℕ} → ended s ≡ false → read_record s rest ≡ refuse n
      → Read s place rest (fault n place)
  next : {s : State} {place : ℕ} {r : Record} {rest : List ℕ} {out : Reading} → ended s ≡ false → read_record s rest ≡ says r
      → Read (after s r) (place + size r) (drop (size r) rest) out
      → Read s place rest out
