-- The candidates that are maps, and what becomes of a list of maps.
use Rattle.std.specs.Prelude.{◌≡◌, true, ◌↔◌, List, ℕ, ◌+◌, ◌*◌, ◌≤◌, ◌<◌, length, Result, Ok, Err}
use Rattle.model.specs.Table.{term}
use Rattle.model.specs.Skeleton.{means}
use Rattle.model.specs.Maps.{IsStrandMap}
use Rattle.model.specs.Answers.{Answer, answered, refused, refusal, over, end_to_end}
use Rattle.model.specs.declared.Refusal.{Refusal}
use Rattle.tables.specs.Layout.{strand_count}
use Rattle.tables.specs.Tables.{byte, rows_in, skeleton_at}
use Rattle.list.specs.Candidates.{digits}
use Rattle.list.specs.Found.{marked}
use Rattle.list.specs.declared.Found.{Found}

-- how many strands the skeleton at a block has
abbrev pub strands : List ℕ → ℕ → ℕ
strands t b = byte t (b + strand_count)

-- candidate c is a map from the skeleton at a to the one at b
pub record IsMap (t : List ℕ) (a b c : ℕ) : Type 0 where
  pub is : IsStrandMap (means (term (rows_in t)) (skeleton_at t a)) (means (term (rows_in t)) (skeleton_at t b))
      (digits (strands t a) (strands t b) c)

-- of the candidates below c those are marked that are maps, and no others
pub record MarkedBelow (t : List ℕ) (a b c : ℕ) (found : Found) : Type 0 where
  pub at : (k : ℕ) → (marked found k ≡ true) ↔ ((k < c) × IsMap t a b k)

-- the list of maps of n bytes each is written over the lent bytes and counted, or there is no room for it
pub data GivenAs (maps : List (List ℕ)) (n : ℕ) (lent : List ℕ) : Answer ℕ → List ℕ → Type 0 where
  all : length maps * n ≤ length lent → GivenAs maps n lent (answered (length maps)) (over (end_to_end maps) lent)
  short : length lent < length maps * n → GivenAs maps n lent (refused (refusal 16)) lent

-- there are at most 6 to the 6th power
abbrev pub FewMaps : Result ℕ Refusal → Type 0
FewMaps (Ok count) = count ≤ 46656
FewMaps (Err r) = Unit {0}
