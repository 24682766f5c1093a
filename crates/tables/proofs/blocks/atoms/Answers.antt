-- `tables::blocks::atoms` meets its contract: the atoms of a skeleton are those that its block counts. Assumes nothing.
use Rattle.tables.proofs.Listed.{assumed_atoms}
use Rattle.tables.proofs.blocks.atoms.Goals as goal

pub returns : goal.returns
returns c =
    rw (assumed_atoms c.args.table.now c.args.block c.args.which)
    (rw (c.atoms_place.ensures, c.atoms_in.ensures) at c.atoms_from.ensures)
