-- `keys::Inverses::pair` meets its contract. Assumes nothing.
use native.Mathlib.Omega.{arith}
use Rattle.keys.proofs.Pairing.{key_earlier, byte_paired, byte_passed, is_inverse, no_inverse}
use Rattle.keys.proofs.Inverses.pair.Goals as goal

pub bounds-self-from-then-is : goal.bounds-self-from-then-is
bounds-self-from-then-is c =
    let s = c.requires.filled in
    omega (arith, s.0.terms, c.from.ensures, key_earlier _ _ s.0 s.2 s.1 (is_inverse c.kind_at.ensures (cc)))

pub returns-then-is : goal.returns-then-is
returns-then-is c =
    let s = c.requires.filled in
    rw (c.from-then-is.ensures, c.first_at-key.ensures, c.from.ensures)
    (byte_paired _ _ s.0 s.2 s.1 (is_inverse c.kind_at.ensures (cc)) c.requires.partners)

pub returns-else-is : goal.returns-else-is
returns-else-is c =
    let s = c.requires.filled in
    byte_passed _ _ s.0 s.2 (no_inverse c.kind_at.ensures (cc)) c.requires.partners
