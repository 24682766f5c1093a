-- `mapping::prepared::Atoms::fill` meets its contract. Assumes nothing.
use Rattle.mapping.proofs.prepared.Atoms.fill.Goals as goal

pub returns : goal.returns
returns c =
    let found = c.find_origins.ensures in
    record {
      nons = rw found.same.0 c.atoms-self.ensures;
      uniqs = rw found.same.1 c.atoms-self-2.ensures;
      origins = found.origins;
    }
