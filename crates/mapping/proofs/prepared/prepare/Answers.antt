-- `mapping::prepared::prepare` meets its contract. Assumes nothing.
use mathlib.Core.Path.{refl}
use Rattle.mapping.proofs.prepared.prepare.Goals as goal

pub fill-requires : goal.fill-requires
fill-requires c =
    let a = c.requires in
    (a.target.filled, a.target.block, a.target.inside, a.ordered)

pub returns : goal.returns
returns c =
    let a = c.requires in
    record {
      prepared = record {
        asked = a;
        matrix = c.fill.ensures;
        source_atoms = rw (c.from.ensures.0, c.from.ensures.1) at c.fill-2.ensures;
        target_atoms = rw (c.to.ensures.0, c.to.ensures.1) at c.fill-3.ensures;
      };
      table = refl;
      source = refl;
      target = refl;
    }
