-- `tables::blocks::put_atom` meets its contract.
-- Assumes nothing.
use mathlib.Core.Path.{refl}
use native.Mathlib.Omega.{arith}
use lib.ListN.{length-set}
use Rattle.tables.proofs.Stored.{put_set}
use Rattle.tables.proofs.BlockPuts.{places_low, assumed_put}
use Rattle.tables.proofs.blocks.put_atom.Goals as goal

pub returns : goal.returns
returns c =
    let places = places_low c.args.which in
    rw (c.from.ensures, c.block_of-b.ensures, c.count_place.ensures, c.atoms_place.ensures)
    (assumed_put _ _ _ c.args.k _ c.args.atom.0 c.requires.filled c.requires.there c.args.which refl c.requires.room
    (put_set _ _ _ (omega (arith, places.0, places.1))) (put_set _ _ _ (simp length-set (omega (arith, places.0, places.1)))))
