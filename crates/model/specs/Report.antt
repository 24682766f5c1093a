-- What the bench program writes. "A bench program reads a sheet from standard input (its first 4,096 bytes decide) and lends
-- the list 49,152 bytes. It writes exactly: .."
use Rattle.std.specs.Prelude.{◌≡◌, List, [], ◌∷◌, ◌++◌, ℕ, length, take}
use Rattle.model.specs.Sheet.{Sheet, Refusal, Verdict, Drawing, meant}
use Rattle.model.specs.Judging.{HasVerdict}
use Rattle.model.specs.Maps.{TheMaps}
use Rattle.model.specs.Answers.{refused, answered, refusal, Gives, Counts, AskSheet, Openness, AskRealized, HasSkeletons, ListRoom}
use Rattle.model.specs.Lines.{sheet_line, skeleton_line, maps_line, map_line}

-- "Each map is a line"
unfoldable pub map_lines : List (List ℕ) → List ℕ
unfolding map_line
map_lines [] = []
map_lines (m ∷ maps) = map_line m ++ map_lines maps

module _ (bytes lent : List ℕ) where
  -- the maps from skeleton 0 to skeleton 1; "`maps 0 to 1 refused 16` for room"
  pub data ListText : List ℕ → Type 0 where
    listed : {s : Sheet} {x : Drawing × Drawing} {maps : List (List ℕ)} → HasVerdict bytes (Verdict.accepted s)
        → HasSkeletons 0 1 s x
        → ListRoom 0 1 lent x
        → TheMaps (meant x.0) (meant x.1) maps
        → ListText (maps_line 0 1 (answered (length maps)) ++ map_lines maps)
    no_room : {s : Sheet} {x : Drawing × Drawing} → HasVerdict bytes (Verdict.accepted s) → HasSkeletons 0 1 s x
        → ¬ ListRoom 0 1 lent x
        → ListText (maps_line 0 1 (refused (refusal 16)))

  -- "a bad sheet gives only `sheet refused N place P skeleton K`"; "no maps line for one skeleton"
  pub data Reports : List ℕ → Type 0 where
    bad : {r : Refusal} → Gives bytes AskSheet (refused r) [] → Reports (sheet_line (refused r))
    one : {c : Counts} {o : Openness} → Gives bytes AskSheet (answered c) [] → c.skeletons ≡ 1
        → Gives bytes (AskRealized 0) (answered o) []
        → Reports (sheet_line (answered c) ++ skeleton_line 0 o)
    two : {c : Counts} {o p : Openness} {maps : List ℕ} → Gives bytes AskSheet (answered c) [] → c.skeletons ≡ 2
        → Gives bytes (AskRealized 0) (answered o) []
        → Gives bytes (AskRealized 1) (answered p) []
        → ListText maps
        → Reports (sheet_line (answered c) ++ skeleton_line 0 o ++ skeleton_line 1 p ++ maps)

-- the text that an input gives, with any contents of the lent space
pub record Output (input text : List ℕ) : Type 0 where
  pub lent : List ℕ
  pub lends : length lent ≡ 49152
  pub reports : Reports (take 4096 input) lent text
