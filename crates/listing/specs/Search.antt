-- The candidates of two skeletons.
use Rattle.std.specs.Prelude.{◌≡◌, ◌^◌}
use Rattle.list.specs.declared.Found.{Found}
use Rattle.mapping.specs.Judged.{IsPrepared}
use Rattle.listing.specs.declared.Search.{Search}
use Rattle.listing.specs.Found.{strands, MarkedBelow}

-- the judgement of the maps is prepared, and each candidate gives each source strand one of the target's
pub record Searches (s : Search) : Type 0 where
  pub prepared : IsPrepared s.prepared
  pub n : s.candidates.n ≡ strands s.prepared.sides.table.now s.prepared.sides.source
  pub base : s.candidates.base ≡ strands s.prepared.sides.table.now s.prepared.sides.target

-- of all candidates those are marked that are maps
abbrev pub MarkedAll : Search → Found → Type 0
MarkedAll s = MarkedBelow s.prepared.sides.table.now s.prepared.sides.source s.prepared.sides.target (s.candidates.base ^ s.candidates.n)
