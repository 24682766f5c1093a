-- What the bench writes, as whole texts: for a bad sheet, one skeleton, two skeletons, and a list that does not fit.
use Rattle.std.specs.Prelude.{◌≡◌, refl, ℕ, length, take}
use mathlib.Core.List.{List, [], ◌∷◌, replicate}
use Rattle.std.proofs.Common.{arith}
use Rattle.std.proofs.lemmas.List.{length-replicate}
use Rattle.model.specs.Table.{Row, Text, Datum, Skey, Akey, Inv, Enc}
use Rattle.model.specs.Skeleton.{Event, send, recv, Node, Skeleton}
use Rattle.model.specs.Sheet.{Sheet, accepted, Drawing, meant}
use Rattle.model.specs.Judging.{HasVerdict}
use Rattle.model.specs.Maps.{TheMaps}
use Rattle.model.specs.Answers.{Gives, Answer, answered, AskSheet, realized, open_at, AskRealized, HasSkeletons, ListRoom}
use Rattle.model.specs.Lines.{ascii, sheet_line, skeleton_line, maps_line}
use Rattle.model.specs.Report.{map_lines, ListText, listed, no_room, Reports, bad, one, two, Output}
use Rattle.theory.proofs.Verdicts.{verdict_of, verdict_sound}
use Rattle.theory.specs.NoSecond.{maps_one}
use Rattle.theory.proofs.Listing.{maps_of, maps_are}
use Rattle.theory.proofs.Asking.{ask_sheet, ask_realized}
use Rattle.cases.specs.Cases.{paper, lone_hash, two_texts}

abbrev node : ℕ → ℕ → Node
node s p = record { strand = s; position = p }

abbrev skeleton : List (List (Event ℕ)) → List (Node × Node) → List ℕ → List ℕ → Skeleton ℕ
skeleton strands order non uniq = record { strands = strands; order = order; non = non; uniq = uniq }

-- "lends the list 49,152 bytes"
output : (input text : List ℕ) → take 4096 input ≡ input → ((lent : List ℕ) → length lent ≡ 49152 → Reports input lent text)
    → Output input text
output input text all h =
    let lent : List ℕ = replicate 49152 0 in
    let long : length lent ≡ 49152 = length-replicate {A = ℕ} 49152 0 in
    record { lent = lent; lends = long; reports = rw all (h lent long) }

-- A BAD SHEET: the first 50 bytes of the paper's

unfoldable pub cut : List ℕ
unfolding paper
cut = take 50 paper

cut_refused : Gives cut AskSheet (Answer.refused (record { number = 1; place = 50; skeleton = 0 })) []
unfolding cut ask_sheet
cut_refused = (ask_sheet cut).gives

pub text_of_a_bad_sheet : Output cut (ascii "sheet refused 1 place 50 skeleton 0\n")
unfolding cut sheet_line ascii
text_of_a_bad_sheet = output cut _ refl (λ lent l. bad cut_refused)

-- ONE SKELETON: P9

lone_counts : Gives lone_hash AskSheet (answered (record { terms = 2; skeletons = 1 })) []
unfolding lone_hash ask_sheet
lone_counts = (ask_sheet lone_hash).gives

lone_open : Gives lone_hash (AskRealized 0) (answered (open_at (node 0 0))) []
unfolding lone_hash ask_realized
lone_open = (ask_realized 0 lone_hash).gives

pub text_of_one_skeleton : Output lone_hash (ascii "sheet good terms 2 skeletons 1\nskeleton 0 open at 0 0\n")
unfolding lone_hash sheet_line skeleton_line ascii
text_of_one_skeleton = output lone_hash _ refl (λ lent l. one lone_counts refl lone_open)

-- TWO SKELETONS: the paper's example

unfoldable rows : List Row
rows = Skey 0 ∷ Datum 0 ∷ Akey 0 ∷ Akey 1 ∷ Inv 2 ∷ Inv 3 ∷ Enc 0 4 ∷ Enc 6 3 ∷ Enc 1 0 ∷ []

unfoldable view : Skeleton ℕ
view = skeleton ((send 7 ∷ recv 8 ∷ []) ∷ []) [] (4 ∷ 5 ∷ []) (0 ∷ [])

unfoldable shape : Skeleton ℕ
shape =
    skeleton ((send 7 ∷ recv 8 ∷ []) ∷ (recv 7 ∷ send 8 ∷ []) ∷ []) ((node 0 0, node 1 0) ∷ (node 1 1, node 0 1) ∷ [])
    (4 ∷ 5 ∷ []) (0 ∷ [])

unfoldable paper_sheet : Sheet
unfolding rows view shape
paper_sheet = record { rows = rows; skeletons = view ∷ shape ∷ [] }

unfoldable drawings : Drawing × Drawing
unfolding rows view shape
drawings = (record { rows = rows; skeleton = view }, record { rows = rows; skeleton = shape })

paper_good : HasVerdict paper (accepted paper_sheet)
unfolding paper paper_sheet verdict_of
paper_good = (verdict_of paper).is

drawings_there : HasSkeletons 0 1 paper_sheet drawings
unfolding paper_sheet drawings
drawings_there = record { from = record { rows = refl; skeleton = refl }; to = record { rows = refl; skeleton = refl } }

paper_maps : TheMaps (meant drawings.0) (meant drawings.1) ((0 ∷ []) ∷ [])
unfolding paper_sheet drawings maps_of
paper_maps = maps_are 0 1 paper_sheet (verdict_sound paper_good) drawings drawings_there

paper_list : (lent : List ℕ) → length lent ≡ 49152 → ListText paper lent (ascii "maps 0 to 1: 1\n0\n")
unfolding maps_line map_lines ascii drawings view
paper_list lent l =
    listed paper_good drawings_there (record { maps = (0 ∷ []) ∷ []; all = paper_maps; fits = omega (arith, l) }) paper_maps

paper_counts : Gives paper AskSheet (answered (record { terms = 9; skeletons = 2 })) []
unfolding paper ask_sheet
paper_counts = (ask_sheet paper).gives

view_open : Gives paper (AskRealized 0) (answered (open_at (node 0 1))) []
unfolding paper ask_realized
view_open = (ask_realized 0 paper).gives

shape_realized : Gives paper (AskRealized 1) (answered realized) []
unfolding paper ask_realized
shape_realized = (ask_realized 1 paper).gives

pub text_of_the_paper : Output paper
    (ascii "sheet good terms 9 skeletons 2\nskeleton 0 open at 0 1\nskeleton 1 realized\nmaps 0 to 1: 1\n0\n")
unfolding paper sheet_line skeleton_line ascii
text_of_the_paper = output paper _ refl (λ lent l. two paper_counts refl view_open shape_realized (paper_list lent l))

-- NO ROOM: P10 with a byte less than its four maps take

unfoldable texts : List Row
texts = Text 0 ∷ Text 1 ∷ Text 2 ∷ Text 3 ∷ []

unfoldable texts_sheet : Sheet
unfolding texts
texts_sheet =
    record {
      rows = texts;
      skeletons = skeleton ((send 0 ∷ []) ∷ (send 1 ∷ []) ∷ []) [] [] []
          ∷ skeleton ((send 2 ∷ []) ∷ (send 3 ∷ []) ∷ []) [] [] []
          ∷ [];
    }

unfoldable pairs : Drawing × Drawing
unfolding texts
pairs = (
  record { rows = texts; skeleton = skeleton ((send 0 ∷ []) ∷ (send 1 ∷ []) ∷ []) [] [] [] },
  record { rows = texts; skeleton = skeleton ((send 2 ∷ []) ∷ (send 3 ∷ []) ∷ []) [] [] [] },
)

texts_good : HasVerdict two_texts (accepted texts_sheet)
unfolding two_texts texts_sheet verdict_of
texts_good = (verdict_of two_texts).is

pairs_there : HasSkeletons 0 1 texts_sheet pairs
unfolding texts_sheet pairs
pairs_there = record { from = record { rows = refl; skeleton = refl }; to = record { rows = refl; skeleton = refl } }

four_maps : TheMaps (meant pairs.0) (meant pairs.1) ((0 ∷ 0 ∷ []) ∷ (0 ∷ 1 ∷ []) ∷ (1 ∷ 0 ∷ []) ∷ (1 ∷ 1 ∷ []) ∷ [])
unfolding texts_sheet pairs maps_of
four_maps = maps_are 0 1 texts_sheet (verdict_sound texts_good) pairs pairs_there

abbrev seven : List ℕ
seven = 7 ∷ 7 ∷ 7 ∷ 7 ∷ 7 ∷ 7 ∷ 7 ∷ []

short : ¬ ListRoom 0 1 seven pairs
unfolding pairs
short r =
    let e : length r.maps ≡ 4 = rw (maps_one r.all four_maps) refl in
    omega (arith, e, r.fits)

texts_counts : Gives two_texts AskSheet (answered (record { terms = 4; skeletons = 2 })) []
unfolding two_texts ask_sheet
texts_counts = (ask_sheet two_texts).gives

first_realized : Gives two_texts (AskRealized 0) (answered realized) []
unfolding two_texts ask_realized
first_realized = (ask_realized 0 two_texts).gives

second_realized : Gives two_texts (AskRealized 1) (answered realized) []
unfolding two_texts ask_realized
second_realized = (ask_realized 1 two_texts).gives

pub text_without_room : Reports two_texts seven
    (ascii "sheet good terms 4 skeletons 2\nskeleton 0 realized\nskeleton 1 realized\nmaps 0 to 1 refused 16\n")
unfolding sheet_line skeleton_line maps_line ascii
text_without_room = two texts_counts refl first_realized second_realized (no_room texts_good pairs_there short)
