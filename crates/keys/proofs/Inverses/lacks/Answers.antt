-- `keys::Inverses::lacks` meets its contract. Assumes nothing.
use Rattle.keys.proofs.Pairing.{lacking_test}
use Rattle.keys.proofs.Inverses.lacks.Goals as goal

pub returns : goal.returns
returns c =
    let s = c.requires.filled in
    rw (c.from.ensures, c.is_key.ensures, c.kind_at-kind.ensures) (lacking_test _ _ s.0 s.1 c.requires.partners)
