-- "Inverse: an asymmetric key and its inverse are each other's inverse, so the inverse taken twice gives the key back,
-- also after a substitution; every other term is its own." The messages: a sorted algebra in which an asymmetric key is
-- inverted or not, and never twice, so that equal keys are one value.
use Rattle.std.specs.Prelude.{Bool, not, ℕ}
use Rattle.std.proofs.Math.Bool.{Bool-discrete}
use Rattle.std.proofs.Math.Decide.{ℕ_discrete}

-- a symmetric key: a variable, or the long-term key of two names
pub data Sym : Type 0 where
  skey : ℕ → Sym
  ltk : ℕ → ℕ → Sym
  deriving Discrete as Sym-discrete

-- an asymmetric key before it is inverted: a variable, or the public key of a name
pub data Asym : Type 0 where
  akey pubk : ℕ → Asym
  deriving Discrete as Asym-discrete

-- "Kinds 2 to 9 are atoms": an asymmetric key says whether it stands inverted
pub data Atom : Type 0 where
  text datum name : ℕ → Atom
  symmetric : Sym → Atom
  asymmetric : Bool → Asym → Atom
  deriving Discrete as Atom-discrete

pub data Term : Type 0 where
  tag mesg : ℕ → Term
  atom : Atom → Term
  pair enc : Term → Term → Term
  hash : Term → Term
  deriving Discrete as Term-discrete

-- equality is decided
unfoldable pub atom_same : Discrete Atom
atom_same = Atom-discrete ℕ_discrete (Sym-discrete ℕ_discrete) Bool-discrete (Asym-discrete ℕ_discrete)

unfoldable pub same : Discrete Term
same = Term-discrete ℕ_discrete atom_same

unfoldable pub flip : Atom → Atom
flip (text n) = text n
flip (datum n) = datum n
flip (name n) = name n
flip (symmetric k) = symmetric k
flip (asymmetric inverted k) = asymmetric (not inverted) k

-- the inverse. That of a message variable is its own too; no verdict hangs on it, since a key on a sheet is never one
unfoldable pub inv : Term → Term
inv (tag n) = tag n
inv (mesg n) = mesg n
inv (atom a) = atom (flip a)
inv (pair t u) = pair t u
inv (enc t k) = enc t k
inv (hash t) = hash t
