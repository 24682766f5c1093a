-- Strand maps that break one rule and no other, for each of the six, and lent space that is one byte short.
use Rattle.std.specs.Prelude.{List, [], ◌∷◌, ◌++◌, ℕ}
use Rattle.model.specs.Answers.{Gives, Answer, is_map, breaks, AskMap, AskList}
use Rattle.theory.proofs.Asking.{ask_map, ask_list}
use Rattle.cases.specs.Hex.{hex}
use Rattle.cases.specs.Cases.{two_texts, one_text, Case, judges}

-- The sheets

-- the source sends the text 0 twice; of the target's strands one sends the text 1 and receives it, one sends it once, one three
-- times
unfoldable pub directions : List ℕ
unfolding hex
directions =
    hex "4253 01 / 544d 020000 / 544d 020100 / 534b / 5354 02 0000 0000 / 534b / 5354 02 0001 0101 / 5354 01 0001 /"
    ++ hex "5354 03 0001 0001 0001 / 454e"

-- a tag is sent, and received after that; in the target it is only received
unfoldable pub ordered : List ℕ
unfolding hex
ordered =
    hex "4253 01 / 544d 000000 / 534b / 5354 01 0000 / 5354 01 0100 / 4f52 00000100 / 534b / 5354 01 0000 / 5354 01 0100 / 454e"

-- the same, and in the target after that too, by way of a third strand
unfoldable pub ordered_both : List ℕ
unfolding hex
ordered_both =
    hex "4253 01 / 544d 000000 / 534b / 5354 01 0000 / 5354 01 0100 / 4f52 00000100 / 534b / 5354 01 0000 / 5354 01 0100 /"
    ++ hex "5354 02 0100 0000 / 4f52 00000200 / 4f52 02010100 / 454e"

-- the hash of a text is sent, and the text is non-originating in the source
unfoldable pub withheld : List ℕ
unfolding hex
withheld = hex "4253 01 / 544d 020000 / 544d 0c0000 / 534b / 5354 01 0001 / 4e4f 00 / 534b / 5354 01 0001 / 454e"

-- in the target too
unfoldable pub withheld_both : List ℕ
unfolding hex
withheld_both = hex "4253 01 / 544d 020000 / 544d 0c0000 / 534b / 5354 01 0001 / 4e4f 00 / 534b / 5354 01 0001 / 4e4f 00 / 454e"

-- the texts x 0 and y 1 are sent, x is unique and y is not
unfoldable pub unique : List ℕ
unfolding hex
unique = hex "4253 01 / 544d 020000 / 544d 020100 / 534b / 5354 01 0000 / 554f 00 / 534b / 5354 01 0001 / 454e"

-- a message variable 2 is received and x sent, x is unique; y is received and sent, y is unique and originates on another strand
unfoldable pub elsewhere : List ℕ
unfolding hex
elsewhere =
    hex "4253 01 / 544d 020000 / 544d 020100 / 544d 010000 / 534b / 5354 02 0102 0000 / 554f 00 /"
    ++ hex "534b / 5354 02 0101 0001 / 5354 01 0001 / 4f52 01000000 / 554f 01 / 454e"

-- the same, but a tag 3 is received in place of y: then y originates where x does
unfoldable pub here : List ℕ
unfolding hex
here =
    hex "4253 01 / 544d 020000 / 544d 020100 / 544d 010000 / 544d 000000 / 534b / 5354 02 0102 0000 / 554f 00 /"
    ++ hex "534b / 5354 02 0103 0001 / 554f 01 / 454e"

-- The cases

abbrev pub space : List ℕ
space = 1 ∷ 1 ∷ 1 ∷ 1 ∷ 1 ∷ 1 ∷ 1 ∷ 1 ∷ 1 ∷ 1 ∷ []

-- (1) a byte is no target strand; there is a byte too few; there is one too many
abbrev pub rule1_strand : Case
rule1_strand = judges two_texts (0 ∷ 2 ∷ []) (breaks 1) space

abbrev pub rule1_few : Case
rule1_few = judges two_texts (0 ∷ []) (breaks 1) space

abbrev pub rule1_many : Case
rule1_many = judges two_texts (0 ∷ 1 ∷ 0 ∷ []) (breaks 1) space

-- (2) a direction differs; the target strand is too short; it may be longer
abbrev pub rule2_direction : Case
rule2_direction = judges directions (0 ∷ []) (breaks 2) space

abbrev pub rule2_height : Case
rule2_height = judges directions (1 ∷ []) (breaks 2) space

abbrev pub rule2_kept : Case
rule2_kept = judges directions (2 ∷ []) is_map (1 ∷ 255 ∷ 1 ∷ 1 ∷ 1 ∷ 1 ∷ 1 ∷ 1 ∷ 1 ∷ 1 ∷ [])

-- (3) one text would have to go to two
abbrev pub rule3_two : Case
rule3_two = judges one_text (0 ∷ 1 ∷ []) (breaks 3) space

-- (4) precedence, kept by any way through the target
abbrev pub rule4_lost : Case
rule4_lost = judges ordered (0 ∷ 1 ∷ []) (breaks 4) space

abbrev pub rule4_kept : Case
rule4_kept = judges ordered_both (0 ∷ 1 ∷ []) is_map (255 ∷ 1 ∷ 1 ∷ 1 ∷ 1 ∷ 1 ∷ 1 ∷ 1 ∷ 1 ∷ 1 ∷ [])

-- (5) images of NO atoms
abbrev pub rule5_lost : Case
rule5_lost = judges withheld (0 ∷ []) (breaks 5) space

abbrev pub rule5_kept : Case
rule5_kept = judges withheld_both (0 ∷ []) is_map (0 ∷ 255 ∷ 1 ∷ 1 ∷ 1 ∷ 1 ∷ 1 ∷ 1 ∷ 1 ∷ 1 ∷ [])

-- (6) images of UO atoms, and their origins
abbrev pub rule6_lost : Case
rule6_lost = judges unique (0 ∷ []) (breaks 6) space

abbrev pub rule6_elsewhere : Case
rule6_elsewhere = judges elsewhere (0 ∷ []) (breaks 6) space

abbrev pub rule6_kept : Case
rule6_kept = judges here (0 ∷ []) is_map (1 ∷ 255 ∷ 3 ∷ 255 ∷ 1 ∷ 1 ∷ 1 ∷ 1 ∷ 1 ∷ 1 ∷ [])

abbrev pub rule_cases : List Case
rule_cases =
    rule1_strand
    ∷ rule1_few
    ∷ rule1_many
    ∷ rule2_direction
    ∷ rule2_height
    ∷ rule2_kept
    ∷ rule3_two
    ∷ rule4_lost
    ∷ rule4_kept
    ∷ rule5_lost
    ∷ rule5_kept
    ∷ rule6_lost
    ∷ rule6_elsewhere
    ∷ rule6_kept
    ∷ []

-- "16: lent space too short", with place 0 and skeleton 0
abbrev no : {A : Type 0} → ℕ → Answer A
no number = Answer.refused (record { number = number; place = 0; skeleton = 0 })

-- "list space one byte short, 16": four maps of two strands are eight bytes
abbrev seven : List ℕ
seven = 7 ∷ 7 ∷ 7 ∷ 7 ∷ 7 ∷ 7 ∷ 7 ∷ []

pub list_space_short : Gives two_texts (AskList 0 1 seven) (no 16) seven
unfolding two_texts ask_list
list_space_short = (ask_list 0 1 seven two_texts).gives

-- "Too short for all terms: 16, before the map rules are judged": four terms, and a map that breaks rule 1
abbrev three : List ℕ
three = 1 ∷ 1 ∷ 1 ∷ []

pub image_space_short : Gives two_texts (AskMap 0 1 (9 ∷ []) three) (no 16) three
unfolding two_texts ask_map
image_space_short = (ask_map 0 1 (9 ∷ []) three two_texts).gives
