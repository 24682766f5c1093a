-- Sheets with two faults after EN, and which of them is named; and the ways to go wrong that Refusals leaves out.
use Rattle.std.specs.Prelude.{List, [], ◌∷◌}
use Rattle.theory.specs.Each.{Each}
use Rattle.theory.specs.ListTests.{all_of, all_each}
use Rattle.cases.specs.Hex.{hex}
use Rattle.cases.specs.Refusals.{BadSheet, bad, IsRefused, refusal_given, refusal_is}

-- "After EN: 8, 9, then skeleton by skeleton: 10; NO atoms by rising term number, 14 or 11; UO atoms likewise, 12 then 13."
unfoldable pub two_faults : List BadSheet
unfolding bad hex
two_faults =
    -- 8 before 9: a byte after EN, and a key lacks its inverse
    bad 8 17 0 (hex "4253 01 / 544d 060000 / 534b / 5354 01 0000 / 454e / 00")
    -- 9 names the lowest of two keys
    ∷ bad 9 0 0 (hex "4253 01 / 544d 060000 / 544d 060100 / 534b / 5354 01 0000 / 454e")
    -- 9 before 10: a key lacks its inverse, and there is a cycle
    ∷ bad 9 1 0 (hex "4253 01 / 544d 000000 / 544d 060000 / 534b / 5354 02 0100 0000 / 4f52 00010000 / 454e")
    -- 10 before 11, 14 and 12: a cycle, and an atom that is carried, or missing, or originates nowhere
    ∷ bad 10 0 0 (hex "4253 01 / 544d 020000 / 534b / 5354 02 0100 0000 / 4f52 00010000 / 4e4f 00 / 454e")
    ∷ bad 10 0 0 (hex "4253 01 / 544d 000000 / 544d 020000 / 534b / 5354 02 0100 0000 / 4f52 00010000 / 4e4f 01 / 454e")
    ∷ bad 10 0 0 (hex "4253 01 / 544d 000000 / 544d 020000 / 534b / 5354 02 0100 0000 / 4f52 00010000 / 554f 01 / 454e")
    -- NO atoms by rising term number, not in the order of their records: both carried; the lower missing, the higher carried; and
    -- the lower carried, the higher missing
    ∷ bad 11 0 0 (hex "4253 01 / 544d 020000 / 544d 020100 / 534b / 5354 02 0000 0001 / 4e4f 01 / 4e4f 00 / 454e")
    ∷ bad 14 0 0 (hex "4253 01 / 544d 020000 / 544d 020100 / 534b / 5354 01 0001 / 4e4f 01 / 4e4f 00 / 454e")
    ∷ bad 11 0 0 (hex "4253 01 / 544d 020000 / 544d 020100 / 534b / 5354 01 0000 / 4e4f 01 / 4e4f 00 / 454e")
    -- NO atoms before UO atoms, whatever their numbers
    ∷ bad 11 1 0 (hex "4253 01 / 544d 020000 / 544d 020100 / 534b / 5354 02 0100 0001 / 4e4f 01 / 554f 00 / 454e")
    -- UO atoms by rising term number: both originate nowhere; 13 of the lower before 12 of the higher; and 12 of the lower before
    -- 13 of the higher
    ∷ bad 12 0 0 (hex "4253 01 / 544d 020000 / 544d 020100 / 534b / 5354 02 0100 0101 / 554f 01 / 554f 00 / 454e")
    ∷ bad 13 0 0
    (hex "4253 01 / 544d 020000 / 544d 020100 / 534b / 5354 01 0000 / 5354 02 0100 0101 / 554f 00 / 554f 01 / 454e")
    ∷ bad 12 0 0
    (hex "4253 01 / 544d 020000 / 544d 020100 / 534b / 5354 01 0001 / 5354 02 0101 0100 / 554f 00 / 554f 01 / 454e")
    -- 12 then 13: on two strands, and received before
    ∷ bad 12 0 0 (hex "4253 01 / 544d 020000 / 534b / 5354 01 0000 / 5354 01 0000 / 5354 01 0100 / 554f 00 / 454e")
    -- skeleton 0 first: 12 in it, 10 in skeleton 1
    ∷ bad 12 0 0
    (hex "4253 01 / 544d 020000 / 534b / 5354 01 0100 / 554f 00 / 534b / 5354 02 0100 0000 / 4f52 00010000 / 454e")
    ∷ []

unfoldable pub more_faults : List BadSheet
unfolding bad hex
more_faults =
    -- bytes end inside BS and inside ST
    bad 1 0 0 (hex "4253")
    ∷ bad 1 10 0 (hex "4253 01 / 544d 000000 / 534b / 5354")
    -- EN after TM
    ∷ bad 2 8 0 (hex "4253 01 / 544d 000000 / 454e")
    -- inverse of a symmetric key, and of an inverse; long-term key of a name and a text; second argument of a pair not earlier;
    -- unused byte of a hash
    ∷ bad 5 8 0 (hex "4253 01 / 544d 050000 / 544d 080000 / 454e")
    ∷ bad 5 13 0 (hex "4253 01 / 544d 060000 / 544d 080000 / 544d 080100 / 454e")
    ∷ bad 5 13 0 (hex "4253 01 / 544d 040000 / 544d 020000 / 544d 090001 / 454e")
    ∷ bad 5 8 0 (hex "4253 01 / 544d 000000 / 544d 0a0001 / 454e")
    ∷ bad 5 8 0 (hex "4253 01 / 544d 000000 / 544d 0c0001 / 454e")
    -- the second event is wrong; an OR to no strand, to no position, from a send to a send, from a reception to a reception
    ∷ bad 7 10 0 (hex "4253 01 / 544d 000000 / 534b / 5354 02 0000 0001 / 454e")
    ∷ bad 7 15 0 (hex "4253 01 / 544d 000000 / 534b / 5354 01 0000 / 4f52 00000100 / 454e")
    ∷ bad 7 20 0 (hex "4253 01 / 544d 000000 / 534b / 5354 01 0000 / 5354 01 0100 / 4f52 00000101 / 454e")
    ∷ bad 7 20 0 (hex "4253 01 / 544d 000000 / 534b / 5354 01 0000 / 5354 01 0000 / 4f52 00000100 / 454e")
    ∷ bad 7 20 0 (hex "4253 01 / 544d 000000 / 534b / 5354 01 0100 / 5354 01 0100 / 4f52 00000100 / 454e")
    -- a public key lacks its inverse
    ∷ bad 9 1 0 (hex "4253 01 / 544d 040000 / 544d 070000 / 534b / 5354 01 0000 / 454e")
    -- carried by a reception alone
    ∷ bad 11 0 0 (hex "4253 01 / 544d 020000 / 534b / 5354 01 0100 / 4e4f 00 / 454e")
    -- one reception comes after the origin, and another does not
    ∷ bad 13 0 0
    (hex "4253 01 / 544d 020000 / 534b / 5354 01 0000 / 5354 01 0100 / 5354 01 0100 / 4f52 00000100 / 554f 00 / 454e")
    -- the second name of a long-term key, and the name of a private key, are in no event
    ∷ bad 14 2 0 (hex "4253 01 / 544d 040000 / 544d 040100 / 544d 090001 / 534b / 5354 01 0000 / 4e4f 02 / 454e")
    ∷ bad 14 3 0 (hex "4253 01 / 544d 000000 / 544d 040000 / 544d 070100 / 544d 080200 / 534b / 5354 01 0000 / 4e4f 03 / 454e")
    ∷ []

-- THE CLAIM
pub first_named : Each IsRefused two_faults
unfolding all_of refusal_given two_faults
first_named b m = refusal_is b (all_each refusal_given two_faults tt b m)

pub more_refused : Each IsRefused more_faults
unfolding all_of refusal_given more_faults
more_refused b m = refusal_is b (all_each refusal_given more_faults tt b m)
