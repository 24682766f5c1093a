-- Bad sheets for each refusal 1 to 14, some for each, for the definitions themselves. The limits are in Limits; sheets with two
-- faults, and more of those with one, are in Faults.
use Rattle.std.specs.Prelude.{◌≡◌, Bool, false, ◌&&◌, List, [], ◌∷◌, ◌++◌, ℕ, T, eqb}
use Rattle.std.proofs.Common.{eqb→eq}
use Rattle.model.specs.Sheet.{Refusal, Verdict, refused, accepted}
use Rattle.model.specs.Judging.{HasVerdict}
use Rattle.theory.specs.Tests.{both}
use Rattle.theory.specs.Each.{Each}
use Rattle.theory.specs.ListTests.{all_of, all_each}
use Rattle.theory.proofs.Verdicts.{verdict_of}
use Rattle.cases.specs.Hex.{hex}

pub record BadSheet : Type 0 where
  pub bytes : List ℕ
  pub refusal : Refusal

-- number, place and skeleton of the refusal
unfoldable pub bad : ℕ → ℕ → ℕ → List ℕ → BadSheet
bad number place skeleton bytes =
    record { bytes = bytes; refusal = record { number = number; place = place; skeleton = skeleton } }

unfoldable pub IsRefused : BadSheet → Type 0
IsRefused b = HasVerdict b.bytes (refused b.refusal)

-- the terms are a text 0 and a tag 1; one strand sends the tag, another receives it
unfoldable two_terms : List ℕ
unfolding hex
two_terms = hex "4253 01 / 544d 020000 / 544d 000000 / 534b / 5354 01 0001 / 5354 01 0101"

unfoldable pub bad_sheets : List BadSheet
unfolding bad hex two_terms
bad_sheets =
    -- bytes end before EN or inside a record
    bad 1 0 0 []
    ∷ bad 1 15 0 (hex "4253 01 / 544d 000000 / 534b / 5354 01 0100 / 45")
    ∷ bad 1 15 0 (hex "4253 01 / 544d 000000 / 534b / 5354 01 0100")
    ∷ bad 1 3 0 (hex "4253 01 / 54")
    ∷ bad 1 3 0 (hex "4253 01 / 544d 0000")
    -- mark unknown or not allowed next
    ∷ bad 2 3 0 (hex "4253 01 / 5858")
    ∷ bad 2 3 0 (hex "4253 01 / 4253 01")
    ∷ bad 2 3 0 (hex "4253 01 / 454e")
    ∷ bad 2 5 0 (hex "4253 01 / 534b / 534b")
    ∷ bad 2 5 0 (hex "4253 01 / 534b / 454e")
    ∷ bad 2 28 0 (two_terms ++ hex "4e4f 00 / 4f52 00000100")
    ∷ bad 2 28 0 (two_terms ++ hex "554f 00 / 4e4f 00")
    ∷ bad 2 28 0 (two_terms ++ hex "554f 00 / 4f52 00000100")
    ∷ bad 2 31 0 (two_terms ++ hex "4f52 00000100 / 5354 01 0001")
    ∷ bad 2 25 0 (two_terms ++ hex "544d 020100")
    -- edition not 1
    ∷ bad 3 0 0 (hex "4253 02")
    -- height outside 1 to 16, a third skeleton
    ∷ bad 4 10 0 (hex "4253 01 / 544d 000000 / 534b / 5354 00")
    ∷ bad 4 10 0 (hex "4253 01 / 544d 000000 / 534b / 5354 11")
    ∷ bad 4 22 0 (hex "4253 01 / 544d 000000 / 534b / 5354 01 0000 / 534b / 5354 01 0000 / 534b")
    -- kind, unused byte, argument
    ∷ bad 5 3 0 (hex "4253 01 / 544d 0d0000 / 454e")
    ∷ bad 5 3 0 (hex "4253 01 / 544d 000001 / 454e")
    ∷ bad 5 8 0 (hex "4253 01 / 544d 000000 / 544d 070000 / 454e")
    ∷ bad 5 13 0 (hex "4253 01 / 544d 000000 / 544d 010000 / 544d 0b0001 / 454e")
    -- already on the sheet
    ∷ bad 6 8 0 (hex "4253 01 / 544d 000000 / 544d 000000 / 454e")
    -- direction, term, no atom, direction of an OR
    ∷ bad 7 10 0 (hex "4253 01 / 544d 000000 / 534b / 5354 01 0200 / 454e")
    ∷ bad 7 10 0 (hex "4253 01 / 544d 000000 / 534b / 5354 01 0001 / 454e")
    ∷ bad 7 15 0 (hex "4253 01 / 544d 000000 / 534b / 5354 01 0000 / 4e4f 00 / 454e")
    ∷ bad 7 20 0 (hex "4253 01 / 544d 000000 / 534b / 5354 01 0000 / 5354 01 0100 / 4f52 01000000 / 454e")
    -- bytes after EN
    ∷ bad 8 17 0 (hex "4253 01 / 544d 000000 / 534b / 5354 01 0100 / 454e / 00")
    -- key without inverse
    ∷ bad 9 1 0 (hex "4253 01 / 544d 000000 / 544d 060000 / 534b / 5354 01 0000 / 454e")
    -- a cycle, in the first and in the second skeleton
    ∷ bad 10 0 0
    (hex "4253 01 / 544d 000000 / 534b / 5354 02 0100 0000 / 5354 02 0100 0000 / 4f52 00010100 / 4f52 01010000 / 454e")
    ∷ bad 10 0 1
    (hex "4253 01 / 544d 000000 / 534b / 5354 01 0000 / 534b / 5354 02 0100 0000 / 5354 02 0100 0000 / 4f52 00010100 /"
    ++ hex "4f52 01010000 / 454e")
    -- non-originating atom carried
    ∷ bad 11 0 0 (hex "4253 01 / 544d 020000 / 534b / 5354 01 0000 / 4e4f 00 / 454e")
    -- unique atom with no originating strand, and with two
    ∷ bad 12 0 0 (hex "4253 01 / 544d 020000 / 534b / 5354 01 0100 / 554f 00 / 454e")
    ∷ bad 12 0 0 (hex "4253 01 / 544d 020000 / 534b / 5354 01 0000 / 5354 01 0000 / 554f 00 / 454e")
    -- a reception carries it, not after its origin
    ∷ bad 13 0 0 (hex "4253 01 / 544d 020000 / 534b / 5354 01 0000 / 5354 01 0100 / 554f 00 / 454e")
    -- variable of a non-originating atom in no event
    ∷ bad 14 1 0 (hex "4253 01 / 544d 000000 / 544d 020000 / 534b / 5354 01 0000 / 4e4f 01 / 454e")
    ∷ []

-- Each is given: one computation over the list

unfoldable pub is_given : Verdict → Refusal → Bool
is_given (refused q) r = eqb q.number r.number && (eqb q.place r.place && eqb q.skeleton r.skeleton)
is_given (accepted s) r = false

given_is : (v : Verdict) (r : Refusal) → T (is_given v r) → v ≡ refused r
unfolding is_given
given_is (refused q) r h =
    let (a, g) = both (eqb q.number r.number) _ h in
    let (b, c) = both (eqb q.place r.place) _ g in
    let x : q.number ≡ r.number = eqb→eq _ _ a in
    let y : q.place ≡ r.place = eqb→eq _ _ b in
    let z : q.skeleton ≡ r.skeleton = eqb→eq _ _ c in
    λ i. refused (record { number = x i; place = y i; skeleton = z i })
given_is (accepted _) r h = elim h [ ]

unfoldable pub refusal_given : BadSheet → Bool
unfolding is_given verdict_of
refusal_given b = is_given (verdict_of b.bytes).verdict b.refusal

pub refusal_is : (b : BadSheet) → T (refusal_given b) → IsRefused b
unfolding refusal_given IsRefused
refusal_is b h = rw (given_is (verdict_of b.bytes).verdict b.refusal h) at (verdict_of b.bytes).is

-- THE CLAIM
pub all_refused : Each IsRefused bad_sheets
unfolding all_of refusal_given bad_sheets
all_refused b m = refusal_is b (all_each refusal_given bad_sheets tt b m)
