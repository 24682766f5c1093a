-- Laws of reading: each limit is reached, and passed by one; the count is judged before completeness; what may follow what.
use Rattle.std.specs.Prelude.{◌≡◌, refl, List, [], ◌∷◌, ℕ, length}
use Rattle.std.proofs.Math.Option.{none, some}
use Rattle.model.specs.Limits.{most_nons, most_uniqs}
use Rattle.model.specs.Table.{Row, Tag, Mesg, Name, Pubk}
use Rattle.model.specs.Skeleton.{Skeleton, send}
use Rattle.model.specs.Reading.{BS, SK, NO, UO, may_follow, marked_as, refuse, says, begin, strand, non, uniq, read_row, read_TM, read_SK, read_ST, read_OR, read_atom}

-- "At most 200 terms": "one more record of a kind still allowed there, is 4", before its bytes are asked for
pub term_201 : (rows : List Row) → length rows ≡ 200 → read_TM rows (0x54 ∷ 0x4d ∷ []) ≡ refuse 4
unfolding read_TM
term_201 rows e = rw e

pub term_200 : (rows : List Row) → length rows ≡ 199 → read_TM rows (0x54 ∷ 0x4d ∷ []) ≡ refuse 1
unfolding read_TM
term_200 rows e = rw e

-- "A third SK where a new skeleton could begin .. is 4"
pub skeleton_3 : read_SK 2 ≡ refuse 4
unfolding read_SK
skeleton_3 = refl

pub skeleton_2 : read_SK 1 ≡ says begin
unfolding read_SK
skeleton_2 = refl

-- "6 strands, height 1 to 16"
pub strand_7 : (rest : List ℕ) → read_ST 1 6 rest ≡ refuse 4
unfolding read_ST
strand_7 rest = refl

pub strand_6 : read_ST 1 5 (0x53 ∷ 0x54 ∷ 1 ∷ 0 ∷ 0 ∷ []) ≡ says (strand (send 0 ∷ []))
unfolding read_ST
strand_6 = refl

pub height_0 : read_ST 1 0 (0x53 ∷ 0x54 ∷ 0 ∷ []) ≡ refuse 4
unfolding read_ST
height_0 = refl

pub height_17 : read_ST 1 0 (0x53 ∷ 0x54 ∷ 17 ∷ []) ≡ refuse 4
unfolding read_ST
height_17 = refl

pub height_16 : read_ST 1 0 (0x53 ∷ 0x54 ∷ 16 ∷ []) ≡ refuse 1
unfolding read_ST
height_16 = refl

-- "64 OR, 32 NO, 32 UO"
pub order_65 : (K : Skeleton ℕ) → length K.order ≡ 64 → read_OR K (0x4f ∷ 0x52 ∷ []) ≡ refuse 4
unfolding read_OR
order_65 K e = rw e

pub order_64 : (K : Skeleton ℕ) → length K.order ≡ 63 → read_OR K (0x4f ∷ 0x52 ∷ []) ≡ refuse 1
unfolding read_OR
order_64 K e = rw e

pub non_33 : (rows : List Row) → read_atom most_nons non rows 32 (0x4e ∷ 0x4f ∷ []) ≡ refuse 4
unfolding read_atom
non_33 rows = refl

pub non_32 : (rows : List Row) → read_atom most_nons non rows 31 (0x4e ∷ 0x4f ∷ []) ≡ refuse 1
unfolding read_atom
non_32 rows = refl

pub uniq_33 : (rows : List Row) → read_atom most_uniqs uniq rows 32 (0x55 ∷ 0x4f ∷ []) ≡ refuse 4
unfolding read_atom
uniq_33 rows = refl

pub uniq_32 : (rows : List Row) → read_atom most_uniqs uniq rows 31 (0x55 ∷ 0x4f ∷ []) ≡ refuse 1
unfolding read_atom
uniq_32 rows = refl

-- "5: term kind, argument or unused byte wrong; 6: term already on the sheet"
pub no_kind : read_row [] 13 0 0 ≡ refuse 5
unfolding read_row
no_kind = refl

pub unused_byte : read_row [] 2 0 1 ≡ refuse 5
unfolding read_row
unused_byte = refl

pub argument_not_earlier : read_row (Name 0 ∷ []) 12 1 0 ≡ refuse 5
unfolding read_row
argument_not_earlier = refl

pub public_key_of_no_name : read_row (Tag 0 ∷ []) 7 0 0 ≡ refuse 5
unfolding read_row
public_key_of_no_name = refl

pub key_is_a_variable : read_row (Tag 0 ∷ Mesg 0 ∷ []) 11 0 1 ≡ refuse 5
unfolding read_row
key_is_a_variable = refl

pub there_already : read_row (Name 0 ∷ Pubk 0 ∷ []) 7 0 0 ≡ refuse 6
unfolding read_row
there_already = refl

-- "a mark out of order is 2": NO after UO, a second BS, EN straight after SK
pub no_after_uo : marked_as 0x4e 0x4f (may_follow (some UO)) ≡ none
unfolding marked_as may_follow
no_after_uo = refl

pub uo_after_no : marked_as 0x55 0x4f (may_follow (some NO)) ≡ some UO
unfolding marked_as may_follow
uo_after_no = refl

pub no_second_bs : marked_as 0x42 0x53 (may_follow (some BS)) ≡ none
unfolding marked_as may_follow
no_second_bs = refl

pub no_empty_skeleton : marked_as 0x45 0x4e (may_follow (some SK)) ≡ none
unfolding marked_as may_follow
no_empty_skeleton = refl
