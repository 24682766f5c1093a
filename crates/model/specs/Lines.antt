-- What the bench program writes, as bytes. "It writes exactly: .. Each map is a line, its numbers parted by one space;
-- no maps line for one skeleton; `maps 0 to 1 refused 16` for room; a bad sheet gives only `sheet refused N place P
-- skeleton K`."
use Rattle.std.specs.Prelude.{cond, List, [], ◌∷◌, ◌++◌, ℕ, zero, suc, ◌+◌, ◌/◌, ◌%◌, ltb}
use Prim.Native.Char.{code}
use Prim.Native.String.{String}
use Rattle.model.specs.Answers.{Answer, refused, answered, Counts, Openness, realized, open_at}

-- the bytes of an ASCII text
unfoldable pub ascii : String → List ℕ
ascii String.[] = []
ascii (String.◌∷◌ c s) = code c ∷ ascii s

-- the last n digits of a number, or fewer where it has fewer
unfoldable pub digits : ℕ → ℕ → List ℕ
digits zero x = []
digits (suc n) x = cond (ltb x 10) ((48 + x) ∷ []) (digits n (x / 10) ++ ((48 + x % 10) ∷ []))

-- in decimal: a number x has at most x + 1 digits
unfoldable pub decimal : ℕ → List ℕ
unfolding digits
decimal x = digits (suc x) x

-- "sheet good terms 9 skeletons 2"; "sheet refused N place P skeleton K"
unfoldable pub sheet_line : Answer Counts → List ℕ
unfolding ascii decimal
sheet_line (answered c) =
    ascii "sheet good terms " ++ decimal c.terms ++ ascii " skeletons " ++ decimal c.skeletons ++ ascii "\n"
sheet_line (refused r) =
    ascii "sheet refused " ++ decimal r.number ++ ascii " place " ++ decimal r.place
    ++ ascii " skeleton " ++ decimal r.skeleton ++ ascii "\n"

-- "skeleton 0 open at 0 1"; "skeleton 1 realized"
unfoldable pub skeleton_line : ℕ → Openness → List ℕ
unfolding ascii decimal
skeleton_line k realized = ascii "skeleton " ++ decimal k ++ ascii " realized\n"
skeleton_line k (open_at n) =
    ascii "skeleton " ++ decimal k ++ ascii " open at " ++ decimal n.strand ++ ascii " " ++ decimal n.position ++ ascii "\n"

-- "maps 0 to 1: 1"; "maps 0 to 1 refused 16"
unfoldable pub maps_line : ℕ → ℕ → Answer ℕ → List ℕ
unfolding ascii decimal
maps_line source target (answered count) =
    ascii "maps " ++ decimal source ++ ascii " to " ++ decimal target ++ ascii ": " ++ decimal count ++ ascii "\n"
maps_line source target (refused r) =
    ascii "maps " ++ decimal source ++ ascii " to " ++ decimal target ++ ascii " refused " ++ decimal r.number ++ ascii "\n"

-- "Each map is a line, its numbers parted by one space"
unfoldable pub map_line : List ℕ → List ℕ
unfolding ascii decimal
map_line [] = ascii "\n"
map_line (x ∷ []) = decimal x ++ ascii "\n"
map_line (x ∷ y ∷ l) = decimal x ++ ascii " " ++ map_line (y ∷ l)
