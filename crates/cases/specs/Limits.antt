-- Each limit for the definitions themselves: as many records as there may be are read, and one more is refusal 4.
use Rattle.std.specs.Prelude.{List, [], ◌∷◌, ◌++◌, ℕ, zero, suc}
use Rattle.model.specs.Sheet.{refused}
use Rattle.model.specs.Judging.{HasVerdict}
use Rattle.model.specs.Answers.{Gives, answered, AskSheet}
use Rattle.theory.proofs.Verdicts.{verdict_of}
use Rattle.theory.proofs.Asking.{ask_sheet}
use Rattle.cases.specs.Hex.{hex}

-- a record n times
unfoldable pub times : ℕ → List ℕ → List ℕ
times zero l = []
times (suc n) l = l ++ times n l

-- n tags
unfoldable pub tags : ℕ → List ℕ
tags zero = []
tags (suc n) = tags n ++ (0x54 ∷ 0x4d ∷ 0 ∷ n ∷ 0 ∷ [])

-- what comes before the records that are counted, n such records, how many there may be, and where one more would begin
pub record Limit : Type 0 where
  pub head : List ℕ
  pub counted : ℕ → List ℕ
  pub most : ℕ
  pub place : ℕ

-- with as many only the next record is missing
pub record Limited (l : Limit) : Type 0 where
  pub read : HasVerdict (l.head ++ l.counted l.most) (refused (record { number = 1; place = l.place; skeleton = 0 }))
  pub passed : HasVerdict (l.head ++ l.counted (suc l.most))
      (refused (record { number = 4; place = l.place; skeleton = 0 }))

-- "200 terms"
unfoldable pub terms : Limit
unfolding hex times tags
terms = record { head = hex "4253 01"; counted = tags; most = 200; place = 1003 }

pub terms_limited : Limited terms
unfolding terms verdict_of
terms_limited = record { read = (verdict_of _).is; passed = (verdict_of _).is }

-- "one or two skeletons"
unfoldable pub skeletons : Limit
unfolding hex times tags
skeletons =
    record { head = hex "4253 01 / 544d 000000"; counted = λ n. times n (hex "534b / 5354 01 0000"); most = 2; place = 22 }

pub skeletons_limited : Limited skeletons
unfolding skeletons verdict_of
skeletons_limited = record { read = (verdict_of _).is; passed = (verdict_of _).is }

-- "6 strands"
unfoldable pub strands : Limit
unfolding hex times tags
strands = record { head = hex "4253 01 / 544d 000000 / 534b"; counted = λ n. times n (hex "5354 01 0000"); most = 6; place = 40 }

pub strands_limited : Limited strands
unfolding strands verdict_of
strands_limited = record { read = (verdict_of _).is; passed = (verdict_of _).is }

-- "64 OR"
unfoldable pub orders : Limit
unfolding hex times tags
orders =
    record {
      head = hex "4253 01 / 544d 000000 / 534b / 5354 01 0000 / 5354 01 0100";
      counted = λ n. times n (hex "4f52 00000100");
      most = 64;
      place = 404;
    }

pub orders_limited : Limited orders
unfolding orders verdict_of
orders_limited = record { read = (verdict_of _).is; passed = (verdict_of _).is }

-- "32 NO", "32 UO"
unfoldable pub atoms : List ℕ → Limit
unfolding hex times
atoms one =
    record {
      head = hex "4253 01 / 544d 020000 / 534b / 5354 01 0000";
      counted = λ n. times n one;
      most = 32;
      place = 111;
    }

unfoldable pub nons : Limit
unfolding hex atoms
nons = atoms (hex "4e4f 00")

pub nons_limited : Limited nons
unfolding nons verdict_of
nons_limited = record { read = (verdict_of _).is; passed = (verdict_of _).is }

unfoldable pub uniqs : Limit
unfolding hex atoms
uniqs = atoms (hex "554f 00")

pub uniqs_limited : Limited uniqs
unfolding uniqs verdict_of
uniqs_limited = record { read = (verdict_of _).is; passed = (verdict_of _).is }

-- "200 terms good"; "height 16 good, 17 and 0 refused 4"
unfoldable pub full_table : List ℕ
unfolding hex tags
full_table = hex "4253 01" ++ (tags 200 ++ hex "534b / 5354 01 0000 / 454e")

-- one strand of n sends
unfoldable pub height : ℕ → List ℕ
unfolding hex times
height n = hex "4253 01 / 544d 000000 / 534b / 5354" ++ (n ∷ (times n (hex "0000") ++ hex "454e"))

pub record Good (bytes : List ℕ) (terms : ℕ) : Type 0 where
  pub is : Gives bytes AskSheet (answered (record { terms = terms; skeletons = 1 })) []

pub full_table_good : Good full_table 200
unfolding full_table ask_sheet
full_table_good = record { is = (ask_sheet _).gives }

pub height_16_good : Good (height 16) 1
unfolding height ask_sheet
height_16_good = record { is = (ask_sheet _).gives }

pub height_17_refused : HasVerdict (height 17) (refused (record { number = 4; place = 10; skeleton = 0 }))
unfolding height verdict_of
height_17_refused = (verdict_of _).is

pub height_0_refused : HasVerdict (height 0) (refused (record { number = 4; place = 10; skeleton = 0 }))
unfolding height verdict_of
height_0_refused = (verdict_of _).is
