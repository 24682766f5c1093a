-- "Earlier messages: those of all sends that precede the reception. Withheld: all NO atoms, and UO atoms that originate. Derivable
-- terms are the least set that holds the earlier messages, all tags, all message variables and all atoms not withheld, and is
-- closed under pairing, splitting, encrypting, hashing, and decrypting with the inverse of the key. The set ranges over all terms,
-- also those on no sheet. Figure 9.1 and rules 9.1 to 9.3 decide."
use Rattle.std.specs.Prelude.{◌⊎◌, ℕ}
use mathlib.Core.List.{Memᴰ}
use Rattle.model.specs.Term.{Atom, Term, tag, mesg, atom, pair, enc, hash, inv}
use Rattle.model.specs.Skeleton.{send, recv, Node, Skeleton, At}
use Rattle.model.specs.Events.{Before, Origin}

module _ (K : Skeleton Term) where
  -- "Earlier messages: those of all sends that precede the reception."
  pub record SentBefore (n : Node) (t : Term) : Type 0 where
    pub sender : Node
    pub at : At K sender (send t)
    pub before : Before K sender n

  -- "Withheld: all NO atoms, and UO atoms that originate."
  pub record Originating (t : Term) : Type 0 where
    pub listed : Memᴰ t K.uniq
    pub node : Node
    pub origin : Origin K t node

  unfoldable pub Withheld : Atom → Type 0
  Withheld a = Memᴰ (atom a) K.non ⊎ Originating (atom a)

-- the least set, from what is sent and what is withheld
module _ (sent : Term → Type 0) (withheld : Atom → Type 0) where
  pub data Derivable : Term → Type 0 where
    given : {t : Term} → sent t → Derivable t
    a_tag : {n : ℕ} → Derivable (tag n)
    a_mesg : {n : ℕ} → Derivable (mesg n)
    an_atom : {a : Atom} → ¬ withheld a → Derivable (atom a)
    join : {t u : Term} → Derivable t → Derivable u → Derivable (pair t u)
    split_left : {t u : Term} → Derivable (pair t u) → Derivable t
    split_right : {t u : Term} → Derivable (pair t u) → Derivable u
    encrypt : {t k : Term} → Derivable t → Derivable k → Derivable (enc t k)
    decrypt : {t k : Term} → Derivable (enc t k) → Derivable (inv k) → Derivable t
    make_hash : {t : Term} → Derivable t → Derivable (hash t)

module _ (K : Skeleton Term) where
  unfoldable pub DerivableBefore : Node → Term → Type 0
  DerivableBefore n t = Derivable (SentBefore K n) (Withheld K) t

  -- each reception's message is derivable before it
  unfoldable pub Realized : Type 0
  Realized = (n : Node) (t : Term) → At K n (recv t) → DerivableBefore n t
