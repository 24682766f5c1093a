-- Laws of the sheet's records: what each kind means, what each record says, and each reason to refuse one.
use Rattle.std.specs.Prelude.{◌≡◌, refl, true, false, List, [], ◌∷◌, ◌++◌, ℕ, length}
use Rattle.std.proofs.Math.Option.{Option, none, some}
use Rattle.model.specs.Term.{skey, ltk, akey, pubk, text, datum, name, symmetric, asymmetric, tag, mesg, atom, pair, enc, hash, inv, flip}
use Rattle.model.specs.Table.{Row, Tag, Mesg, Text, Datum, Name, Skey, Akey, Pubk, Inv, Ltk, Pair, Enc, Hash, kind, first, second, row_of_kind, is_key, meaning, name_of, terms_after, term}
use Rattle.model.specs.Skeleton.{Skeleton, send, recv}
use Rattle.model.specs.Lines.{ascii}
use Rattle.model.specs.Reading.{Mark, BS, TM, SK, ST, OR, NO, UO, EN, mark_bytes, may_follow, marked_as, Record, Said, State, start, in_work, refuse, says, order, non, strand, size, read_BS, read_row, read_TM, read_SK, read_ST, read_OR, read_atom, read_as, read_record, after, ended, sheet_of, Read, at_end, beyond, at_fault, next, read, faulty}
use Rattle.model.proofs.Samples.{node, skeleton, given_as, TM_of, every_kind, every_record, every_record_bytes}

-- READING, from the first byte to the last

-- every kind and every record, read as the paper's tables say
pub every_record_read : Read start 0 every_record_bytes (read every_record)
unfolding every_record_bytes every_record start ended read_record after size sheet_of
every_record_read =
    next refl refl
    (next refl refl (next refl refl (next refl refl (next refl refl (next refl refl
    (next refl refl (next refl refl (next refl refl (next refl refl (next refl refl
    (next refl refl (next refl refl (next refl refl (next refl refl (next refl refl
    (next refl refl (next refl refl (next refl refl (next refl refl (next refl refl (next refl refl
    (next refl refl (next refl refl (next refl refl (at_end refl)))))))))))))))))))))))))

-- places are offsets: "offset where that record, or the missing next one, begins"; "8: first such byte"
pub ends_inside_a_record : Read start 0 (0x42 ∷ 0x53 ∷ 1 ∷ 0x54 ∷ 0x4d ∷ 0 ∷ []) (faulty (given_as 1 3 0))
unfolding start ended read_record after size
ends_inside_a_record = next refl refl (at_fault refl refl)

pub ends_before_the_end : Read start 0 (0x42 ∷ 0x53 ∷ 1 ∷ []) (faulty (given_as 1 3 0))
unfolding start ended read_record after size
ends_before_the_end = next refl refl (at_fault refl refl)

pub bytes_after_the_end : Read start 0
    ((0x42 ∷ 0x53 ∷ 1 ∷ []) ++ TM_of 0 0 0 ++ (0x53 ∷ 0x4b ∷ 0x53 ∷ 0x54 ∷ 1 ∷ 0 ∷ 0 ∷ 0x45 ∷ 0x4e ∷ 0x45 ∷ 0x4e ∷ []))
    (faulty (given_as 8 17 0))
unfolding start ended read_record after size
bytes_after_the_end = next refl refl (next refl refl (next refl refl (next refl refl (next refl refl (beyond refl)))))

-- MARKS

-- "A two-byte ASCII mark stands before each record"
abbrev pub bytes_of : Mark → List ℕ
bytes_of m = (mark_bytes m).0 ∷ (mark_bytes m).1 ∷ []

pub marks_are_ascii : (bytes_of BS ≡ ascii "BS") × (bytes_of TM ≡ ascii "TM") × (bytes_of SK ≡ ascii "SK")
    × (bytes_of ST ≡ ascii "ST") × (bytes_of OR ≡ ascii "OR") × (bytes_of NO ≡ ascii "NO") × (bytes_of UO ≡ ascii "UO")
    × (bytes_of EN ≡ ascii "EN")
unfolding mark_bytes ascii
marks_are_ascii = (refl, refl, refl, refl, refl, refl, refl, refl)

-- those of some marks that are taken after a record, by their bytes
unfoldable pub taken : Option Mark → List Mark → List Mark
unfolding marked_as may_follow mark_bytes
taken last [] = []
taken last (m ∷ ms) = go (marked_as (mark_bytes m).0 (mark_bytes m).1 (may_follow last)) (taken last ms)
  where
    go : Option Mark → List Mark → List Mark
    go none l = l
    go (some x) l = x ∷ l

abbrev pub after_mark : Option Mark → List Mark
after_mark last = taken last (BS ∷ TM ∷ SK ∷ ST ∷ OR ∷ NO ∷ UO ∷ EN ∷ [])

-- "Order: BS, the TMs (any number down to none), one or two skeletons, EN. A skeleton is SK, one or more ST, then OR, NO and UO
-- records in that order, any number of each down to none."
pub order_of_records : (after_mark none ≡ BS ∷ []) × (after_mark (some BS) ≡ TM ∷ SK ∷ []) × (after_mark (some TM) ≡ TM ∷ SK ∷ [])
    × (after_mark (some SK) ≡ ST ∷ [])
    × (after_mark (some ST) ≡ SK ∷ ST ∷ OR ∷ NO ∷ UO ∷ EN ∷ [])
    × (after_mark (some OR) ≡ SK ∷ OR ∷ NO ∷ UO ∷ EN ∷ [])
    × (after_mark (some NO) ≡ SK ∷ NO ∷ UO ∷ EN ∷ [])
    × (after_mark (some UO) ≡ SK ∷ UO ∷ EN ∷ [])
    × (after_mark (some EN) ≡ [])
unfolding taken
order_of_records = (refl, refl, refl, refl, refl, refl, refl, refl, refl)

-- "mark (2; fewer than two bytes, 1)"
pub no_whole_mark : (read_record start [] ≡ refuse 1) × (read_record start (0x58 ∷ []) ≡ refuse 1)
unfolding read_record start
no_whole_mark = (refl, refl)

pub unknown_mark : (read_record start (0x58 ∷ 0x58 ∷ []) ≡ refuse 2) × (read_record start (0x42 ∷ 0x58 ∷ []) ≡ refuse 2)
    × (read_record start (0x58 ∷ 0x53 ∷ []) ≡ refuse 2)
unfolding read_record start
unknown_mark = (refl, refl, refl)

-- BS AND TM

-- "completeness (1 ..), then 3": one byte less than the record, and an edition that is not 1
pub edition_missing : read_BS (0x42 ∷ 0x53 ∷ []) ≡ refuse 1
unfolding read_BS
edition_missing = refl

pub edition_not_1 : (read_BS (0x42 ∷ 0x53 ∷ 0 ∷ []) ≡ refuse 3) × (read_BS (0x42 ∷ 0x53 ∷ 2 ∷ []) ≡ refuse 3)
unfolding read_BS
edition_not_1 = (refl, refl)

pub term_incomplete : read_TM [] (0x54 ∷ 0x4d ∷ 13 ∷ 0 ∷ []) ≡ refuse 1
unfolding read_TM
term_incomplete = refl

-- "Unused b is 0": kinds 0 to 8, and 12
pub unused_bytes : (read_row every_kind 0 0 1 ≡ refuse 5) × (read_row every_kind 1 0 1 ≡ refuse 5)
    × (read_row every_kind 3 0 1 ≡ refuse 5) × (read_row every_kind 4 0 1 ≡ refuse 5) × (read_row every_kind 5 0 1 ≡ refuse 5)
    × (read_row every_kind 6 0 1 ≡ refuse 5) × (read_row every_kind 7 4 1 ≡ refuse 5) × (read_row every_kind 8 7 1 ≡ refuse 5)
    × (read_row every_kind 12 0 1 ≡ refuse 5)
unfolding every_kind read_row
unused_bytes = (refl, refl, refl, refl, refl, refl, refl, refl, refl)

abbrev pub says_row : Row → Said
says_row r = says (Record.term r)

-- "for 0 to 6, a is just a number"
pub just_a_number : (read_row [] 0 255 0 ≡ says_row (Tag 255)) × (read_row [] 1 255 0 ≡ says_row (Mesg 255))
    × (read_row [] 2 255 0 ≡ says_row (Text 255)) × (read_row [] 3 255 0 ≡ says_row (Datum 255))
    × (read_row [] 4 255 0 ≡ says_row (Name 255)) × (read_row [] 5 255 0 ≡ says_row (Skey 255))
    × (read_row [] 6 255 0 ≡ says_row (Akey 255))
unfolding read_row
just_a_number = (refl, refl, refl, refl, refl, refl, refl)

-- "Arguments are earlier terms": each argument of each kind that has them, at the term's own number
pub arguments_not_earlier : (read_row (Name 0 ∷ []) 7 1 0 ≡ refuse 5) × (read_row (Akey 0 ∷ []) 8 1 0 ≡ refuse 5)
    × (read_row (Name 0 ∷ []) 9 0 1 ≡ refuse 5) × (read_row (Name 0 ∷ []) 9 1 0 ≡ refuse 5)
    × (read_row (Tag 0 ∷ []) 10 0 1 ≡ refuse 5) × (read_row (Tag 0 ∷ []) 10 1 0 ≡ refuse 5)
    × (read_row (Tag 0 ∷ []) 11 0 1 ≡ refuse 5) × (read_row (Tag 0 ∷ []) 11 1 0 ≡ refuse 5)
    × (read_row (Tag 0 ∷ []) 12 1 0 ≡ refuse 5)
unfolding read_row
arguments_not_earlier = (refl, refl, refl, refl, refl, refl, refl, refl, refl)

-- "public key of name a": and of nothing else
pub public_key_of_a_name : (read_row (Text 0 ∷ []) 7 0 0 ≡ refuse 5) × (read_row (Skey 0 ∷ []) 7 0 0 ≡ refuse 5)
    × (read_row (Name 0 ∷ []) 7 0 0 ≡ says_row (Pubk 0))
unfolding read_row
public_key_of_a_name = (refl, refl, refl)

-- "inverse of a (kind 6 or 7)": not of a symmetric key, and not of an inverse
pub inverse_of_a_key : (read_row (Skey 0 ∷ []) 8 0 0 ≡ refuse 5) × (read_row (Akey 0 ∷ Inv 0 ∷ []) 8 1 0 ≡ refuse 5)
    × (read_row (Akey 0 ∷ []) 8 0 0 ≡ says_row (Inv 0)) × (read_row (Name 0 ∷ Pubk 0 ∷ []) 8 1 0 ≡ says_row (Inv 1))
unfolding read_row
inverse_of_a_key = (refl, refl, refl, refl)

-- "long-term key of names a, b"; the two may be one
pub long_term_key_of_names : (read_row (Name 0 ∷ Text 0 ∷ []) 9 0 1 ≡ refuse 5)
    × (read_row (Name 0 ∷ Text 0 ∷ []) 9 1 0 ≡ refuse 5)
    × (read_row (Name 0 ∷ []) 9 0 0 ≡ says_row (Ltk 0 0))
unfolding read_row
long_term_key_of_names = (refl, refl, refl)

-- "A key isn't a message variable": anything else may be one, and a body may be a variable
pub keys_of_encryptions : (read_row (Mesg 0 ∷ []) 11 0 0 ≡ refuse 5)
    × (read_row (Mesg 0 ∷ Tag 0 ∷ []) 11 0 1 ≡ says_row (Enc 0 1))
    × (read_row (Mesg 0 ∷ Hash 0 ∷ []) 11 1 1 ≡ says_row (Enc 1 1))
unfolding read_row
keys_of_encryptions = (refl, refl, refl)

pub variables_anywhere_else : (read_row (Mesg 0 ∷ []) 12 0 0 ≡ says_row (Hash 0))
    × (read_row (Mesg 0 ∷ []) 10 0 0 ≡ says_row (Pair 0 0))
unfolding read_row
variables_anywhere_else = (refl, refl)

-- "No two TM records are alike": alike in all three bytes
pub alike_in_all_bytes : (read_row (Tag 0 ∷ Pair 0 0 ∷ []) 10 0 0 ≡ refuse 6)
    × (read_row (Tag 0 ∷ Pair 0 0 ∷ []) 10 0 1 ≡ says_row (Pair 0 1))
    × (read_row (Tag 0 ∷ Pair 0 0 ∷ []) 10 1 0 ≡ says_row (Pair 1 0))
    × (read_row (Tag 0 ∷ Pair 0 0 ∷ []) 11 0 0 ≡ says_row (Enc 0 0))
    × (read_row (Tag 0 ∷ Pair 0 0 ∷ []) 0 0 0 ≡ refuse 6)
unfolding read_row
alike_in_all_bytes = (refl, refl, refl, refl, refl)

-- "then 3, 5, 6 or 7": a record that is alike and wrong is 5
pub five_before_six : read_row (Text 0 ∷ []) 2 0 1 ≡ refuse 5
unfolding read_row
five_before_six = refl

-- ST

-- "for ST height byte 1, its range 4, events 1", then 7
pub height_byte_missing : read_ST 1 0 (0x53 ∷ 0x54 ∷ []) ≡ refuse 1
unfolding read_ST
height_byte_missing = refl

pub events_missing : read_ST 1 0 (0x53 ∷ 0x54 ∷ 2 ∷ 2 ∷ 0 ∷ 0 ∷ []) ≡ refuse 1
unfolding read_ST
events_missing = refl

-- "direction (0 send, 1 receive), term": each event is looked at, and they come in their order
pub events_in_order : read_ST 3 0 (0x53 ∷ 0x54 ∷ 3 ∷ 0 ∷ 2 ∷ 1 ∷ 1 ∷ 0 ∷ 0 ∷ []) ≡ says (strand (send 2 ∷ recv 1 ∷ send 0 ∷ []))
unfolding read_ST
events_in_order = refl

pub direction_wrong : (read_ST 1 0 (0x53 ∷ 0x54 ∷ 2 ∷ 2 ∷ 0 ∷ 0 ∷ 0 ∷ []) ≡ refuse 7)
    × (read_ST 1 0 (0x53 ∷ 0x54 ∷ 2 ∷ 0 ∷ 0 ∷ 2 ∷ 0 ∷ []) ≡ refuse 7)
unfolding read_ST
direction_wrong = (refl, refl)

pub no_such_term_sent : (read_ST 1 0 (0x53 ∷ 0x54 ∷ 2 ∷ 0 ∷ 1 ∷ 0 ∷ 0 ∷ []) ≡ refuse 7)
    × (read_ST 1 0 (0x53 ∷ 0x54 ∷ 2 ∷ 0 ∷ 0 ∷ 1 ∷ 1 ∷ []) ≡ refuse 7)
unfolding read_ST
no_such_term_sent = (refl, refl)

-- OR

-- strand 0 sends, then receives; strand 1 receives
unfoldable pub two_strands : Skeleton ℕ
two_strands = skeleton ((send 0 ∷ recv 0 ∷ []) ∷ (recv 0 ∷ []) ∷ []) [] [] []

-- "strand, position, strand, position"
pub order_read : read_OR two_strands (0x4f ∷ 0x52 ∷ 0 ∷ 0 ∷ 0 ∷ 1 ∷ []) ≡ says (order (node 0 0) (node 0 1))
unfolding two_strands read_OR
order_read = refl

pub order_incomplete : read_OR two_strands (0x4f ∷ 0x52 ∷ 0 ∷ 0 ∷ 0 ∷ []) ≡ refuse 1
unfolding two_strands read_OR
order_incomplete = refl

-- "the OR pairs, which run from a send to a reception"
pub order_direction : (read_OR two_strands (0x4f ∷ 0x52 ∷ 0 ∷ 1 ∷ 0 ∷ 0 ∷ []) ≡ refuse 7)
    × (read_OR two_strands (0x4f ∷ 0x52 ∷ 0 ∷ 0 ∷ 0 ∷ 0 ∷ []) ≡ refuse 7)
    × (read_OR two_strands (0x4f ∷ 0x52 ∷ 0 ∷ 1 ∷ 1 ∷ 0 ∷ []) ≡ refuse 7)
unfolding two_strands read_OR
order_direction = (refl, refl, refl)

-- no such strand, no such position, on either side
pub no_such_node : (read_OR two_strands (0x4f ∷ 0x52 ∷ 2 ∷ 0 ∷ 0 ∷ 1 ∷ []) ≡ refuse 7)
    × (read_OR two_strands (0x4f ∷ 0x52 ∷ 0 ∷ 2 ∷ 0 ∷ 1 ∷ []) ≡ refuse 7)
    × (read_OR two_strands (0x4f ∷ 0x52 ∷ 0 ∷ 0 ∷ 2 ∷ 0 ∷ []) ≡ refuse 7)
    × (read_OR two_strands (0x4f ∷ 0x52 ∷ 0 ∷ 0 ∷ 1 ∷ 1 ∷ []) ≡ refuse 7)
unfolding two_strands read_OR
no_such_node = (refl, refl, refl, refl)

-- NO AND UO: the readers differ only in what they are told

pub atom_read : read_atom 32 non (Text 0 ∷ Tag 0 ∷ []) 0 (0x4e ∷ 0x4f ∷ 0 ∷ []) ≡ says (non 0)
unfolding read_atom
atom_read = refl

pub atom_incomplete : read_atom 32 non (Tag 0 ∷ []) 0 (0x4e ∷ 0x4f ∷ []) ≡ refuse 1
unfolding read_atom
atom_incomplete = refl

pub not_an_atom : (read_atom 32 non (Text 0 ∷ Tag 0 ∷ []) 0 (0x4e ∷ 0x4f ∷ 1 ∷ []) ≡ refuse 7)
    × (read_atom 32 non (Text 0 ∷ Tag 0 ∷ []) 0 (0x4e ∷ 0x4f ∷ 2 ∷ []) ≡ refuse 7)
unfolding read_atom
not_an_atom = (refl, refl)

-- EACH IS COUNTED BY ITSELF, in its own skeleton

pub limits_of_their_own : (s : State) (rest : List ℕ) → (length s.rows ≡ 200 → read_as TM s rest ≡ refuse 4)
    × (length s.drawn ≡ 2 → read_as SK s rest ≡ refuse 4)
    × (length (in_work s).strands ≡ 6 → read_as ST s rest ≡ refuse 4)
    × (length (in_work s).order ≡ 64 → read_as OR s rest ≡ refuse 4)
    × (length (in_work s).non ≡ 32 → read_as NO s rest ≡ refuse 4)
    × (length (in_work s).uniq ≡ 32 → read_as UO s rest ≡ refuse 4)
unfolding read_as read_TM read_SK read_ST read_OR read_atom
limits_of_their_own s rest = (λ e. rw e, λ e. rw e, λ e. rw e, λ e. rw e, λ e. rw e, λ e. rw e)

-- THE KINDS' MEANING

-- the three bytes of a row are those it is read from
pub row_bytes : (r : Row) → row_of_kind (kind r) (first r) (second r) ≡ some r
unfolding row_of_kind kind first second
row_bytes (Tag a) = refl
row_bytes (Mesg a) = refl
row_bytes (Text a) = refl
row_bytes (Datum a) = refl
row_bytes (Name a) = refl
row_bytes (Skey a) = refl
row_bytes (Akey a) = refl
row_bytes (Pubk a) = refl
row_bytes (Inv a) = refl
row_bytes (Ltk a b) = refl
row_bytes (Pair a b) = refl
row_bytes (Enc a b) = refl
row_bytes (Hash a) = refl

-- each kind means what the paper says, of earlier terms that count from 0
pub kinds_mean : terms_after [] every_kind
    ≡ tag 7 ∷ mesg 7 ∷ atom (text 7) ∷ atom (datum 7) ∷ atom (name 7) ∷ atom (name 8) ∷ atom (symmetric (skey 7))
    ∷ atom (asymmetric false (akey 7))
    ∷ atom (asymmetric false (pubk 8))
    ∷ atom (asymmetric true (akey 7))
    ∷ atom (asymmetric true (pubk 8))
    ∷ atom (symmetric (ltk 7 8))
    ∷ pair (tag 7) (mesg 7)
    ∷ enc (atom (text 7)) (atom (symmetric (skey 7)))
    ∷ hash (atom (datum 7))
    ∷ []
unfolding every_kind terms_after meaning name_of inv flip
kinds_mean = refl

pub terms_count_from_0 : (term every_kind 0 ≡ tag 7) × (term every_kind 14 ≡ hash (atom (datum 7)))
unfolding every_kind term terms_after meaning name_of inv flip
terms_count_from_0 = (refl, refl)

-- "Each term of kind 6 or 7": the keys that refusal 9 asks for
pub keys_are_6_and_7 : (is_key (Skey 0) ≡ false) × (is_key (Akey 0) ≡ true) × (is_key (Pubk 0) ≡ true) × (is_key (Inv 0) ≡ false)
unfolding is_key
keys_are_6_and_7 = (refl, refl, refl, refl)
