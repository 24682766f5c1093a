-- The paper's cases P1 to P12, for the definitions themselves: from the sheets' bytes through the verdict to the answer.
use Rattle.std.specs.Prelude.{◌≡◌, refl, List, [], ◌∷◌, ◌++◌, ℕ, length}
use Rattle.model.specs.Skeleton.{Node}
use Rattle.model.specs.Answers.{Gives, answered, Openness, realized, open_at, AskReach, AskRealized, Mapping, is_map, breaks, AskMap, AskList}
use Rattle.cases.specs.Hex.{hex}

-- The sheets

-- "The 105-byte sheet, hexadecimal, from 000 section 5.1 (initiator's view, then its shape)"
unfoldable pub paper : List ℕ
unfolding hex
paper =
    hex "4253 01 / 544d 050000 / 544d 030000 / 544d 060000 / 544d 060100 / 544d 080200 / 544d 080300 / 544d 0b0004 /"
    ++ hex "544d 0b0603 / 544d 0b0100 / 534b / 5354 02 0007 0108 / 4e4f 04 / 4e4f 05 / 554f 00 / 534b / 5354 02 0007 0108 /"
    ++ hex "5354 02 0107 0008 / 4f52 00000100 / 4f52 01010001 / 4e4f 04 / 4e4f 05 / 554f 00 / 454e"

pub paper_length : length paper ≡ 105
unfolding paper
paper_length = refl

-- the terms of the responder's shape in 000 section 5.1: s 0, d 1, a 2, b 3, b' 4, the inverses of a, b and b' 5 to 7, s under
-- the inverse of a 8, that under b 9 and under b' 10, d under s 11
unfoldable pub shape_terms : List ℕ
unfolding hex
shape_terms =
    hex "4253 01 / 544d 050000 / 544d 030000 / 544d 060000 / 544d 060100 / 544d 060200 / 544d 080200 / 544d 080300 /"
    ++ hex "544d 080400 / 544d 0b0005 / 544d 0b0803 / 544d 0b0804 / 544d 0b0100"

-- the responder receives 9 and sends 11, the initiator sends 10 before; the inverses of a and b are non-originating, s is unique
unfoldable pub shape : List ℕ
unfolding shape_terms hex
shape = shape_terms ++ hex "534b / 5354 02 0109 000b / 5354 01 000a / 4f52 01000000 / 4e4f 05 / 4e4f 06 / 554f 00 / 454e"

-- a strand more receives d after its send; d is unique too
unfoldable pub leak : List ℕ
unfolding shape_terms hex
leak =
    shape_terms
    ++ hex "534b / 5354 02 0109 000b / 5354 01 000a / 5354 01 0101 / 4f52 01000000 / 4f52 00010200 /"
    ++ hex "4e4f 05 / 4e4f 06 / 554f 00 / 554f 01 / 454e"

-- the same, but the initiator sends 9
unfoldable pub no_leak : List ℕ
unfolding shape_terms hex
no_leak =
    shape_terms
    ++ hex "534b / 5354 02 0109 000b / 5354 01 0009 / 5354 01 0101 / 4f52 01000000 / 4f52 00010200 /"
    ++ hex "4e4f 05 / 4e4f 06 / 554f 00 / 554f 01 / 454e"

unfoldable pub lone_tag : List ℕ
unfolding hex
lone_tag = hex "4253 01 / 544d 000000 / 534b / 5354 01 0100 / 454e"

-- of the text 0, which is non-originating
unfoldable pub lone_hash : List ℕ
unfolding hex
lone_hash = hex "4253 01 / 544d 020000 / 544d 0c0000 / 534b / 5354 01 0101 / 4e4f 00 / 454e"

-- the texts x 0, x2 1, y 2, z 3
unfoldable pub texts : List ℕ
unfolding hex
texts = hex "4253 01 / 544d 020000 / 544d 020100 / 544d 020200 / 544d 020300"

unfoldable pub two_texts : List ℕ
unfolding texts hex
two_texts = texts ++ hex "534b / 5354 01 0000 / 5354 01 0001 / 534b / 5354 01 0002 / 5354 01 0003 / 454e"

unfoldable pub one_text : List ℕ
unfolding texts hex
one_text = texts ++ hex "534b / 5354 01 0000 / 5354 01 0000 / 534b / 5354 01 0002 / 5354 01 0003 / 454e"

unfoldable pub one_unique : List ℕ
unfolding texts hex
one_unique = texts ++ hex "534b / 5354 01 0000 / 554f 00 / 534b / 5354 01 0002 / 5354 01 0003 / 554f 02 / 454e"

-- The cases: what is asked of which bytes, and what the answer is

abbrev pub node : ℕ → ℕ → Node
node s p = record { strand = s; position = p }

pub data Case : Type 0 where
  -- a skeleton is realized, or open first at a node
  openness : List ℕ → ℕ → Openness → Case
  -- the reach before a reception
  reaches : List ℕ → ℕ → Node → ℕ → Case
  -- the maps from skeleton 0 to skeleton 1: how many, and the lent bytes afterwards
  maps : List ℕ → ℕ → List ℕ → Case
  -- a strand map from skeleton 0 to skeleton 1: the answer, and the lent bytes afterwards
  judges : List ℕ → List ℕ → Mapping → List ℕ → Case

-- what is lent to a list and to a map
abbrev pub list_space : List ℕ
list_space = 7 ∷ 7 ∷ 7 ∷ 7 ∷ 7 ∷ 7 ∷ 7 ∷ 7 ∷ []

abbrev pub image_space : List ℕ
image_space = 1 ∷ 1 ∷ 1 ∷ 1 ∷ 1 ∷ 1 ∷ 1 ∷ 1 ∷ 1 ∷ 1 ∷ []

-- the bytes have a verdict, and with it the question has this answer
unfoldable pub Holds : Case → Type 0
Holds (openness bytes k a) = Gives bytes (AskRealized k) (answered a) []
Holds (reaches bytes k n count) = Gives bytes (AskReach k n) (answered count) []
Holds (maps bytes count after) = Gives bytes (AskList 0 1 list_space) (answered count) after
Holds (judges bytes map a after) = Gives bytes (AskMap 0 1 map image_space) (answered a) after

abbrev pub P1 : Case
P1 = openness paper 0 (open_at (node 0 1))

abbrev pub P2 : Case
P2 = reaches paper 0 (node 0 1) 4

abbrev pub P3 : Case
P3 = openness paper 1 realized

abbrev pub P3_reach : Case
P3_reach = reaches paper 1 (node 0 1) 5

abbrev pub P4 : Case
P4 = maps paper 1 (0 ∷ 7 ∷ 7 ∷ 7 ∷ 7 ∷ 7 ∷ 7 ∷ 7 ∷ [])

abbrev pub P4_images : Case
P4_images = judges paper (0 ∷ []) is_map (0 ∷ 1 ∷ 2 ∷ 3 ∷ 255 ∷ 255 ∷ 255 ∷ 255 ∷ 255 ∷ 1 ∷ [])

abbrev pub P4_other : Case
P4_other = judges paper (1 ∷ []) (breaks 2) image_space

abbrev pub P5 : Case
P5 = openness shape 0 realized

abbrev pub P6 : Case
P6 = openness leak 0 realized

abbrev pub P7 : Case
P7 = openness no_leak 0 (open_at (node 2 0))

abbrev pub P8 : Case
P8 = openness lone_tag 0 realized

abbrev pub P9 : Case
P9 = openness lone_hash 0 (open_at (node 0 0))

abbrev pub P10 : Case
P10 = maps two_texts 4 (0 ∷ 0 ∷ 0 ∷ 1 ∷ 1 ∷ 0 ∷ 1 ∷ 1 ∷ [])

abbrev pub P11 : Case
P11 = maps one_text 2 (0 ∷ 0 ∷ 1 ∷ 1 ∷ 7 ∷ 7 ∷ 7 ∷ 7 ∷ [])

abbrev pub P12 : Case
P12 = maps one_unique 1 (0 ∷ 7 ∷ 7 ∷ 7 ∷ 7 ∷ 7 ∷ 7 ∷ 7 ∷ [])

abbrev pub cases : List Case
cases =
    P1 ∷ P2 ∷ P3 ∷ P3_reach ∷ P4 ∷ P4_images ∷ P4_other ∷ P5 ∷ P6 ∷ P7 ∷ P8 ∷ P9 ∷ P10 ∷ P11 ∷ P12 ∷ []
