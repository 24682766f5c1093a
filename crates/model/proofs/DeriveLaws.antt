-- Laws of derivability: which messages are earlier, and that what is derivable before a reception is the least set over them.
use Rattle.std.specs.Prelude.{◌↔◌}
use Rattle.model.specs.Term.{Atom, Term, tag, mesg, atom, pair, enc, hash}
use Rattle.model.specs.Skeleton.{send, recv, Node, Skeleton, At}
use Rattle.model.specs.Events.{Before}
use Rattle.model.specs.Derive.{SentBefore, Withheld, Derivable, DerivableBefore, Realized}
use Rattle.model.proofs.Laws.{IsClosed, least, derivable_closed}

module _ (K : Skeleton Term) (n : Node) where
  -- "Earlier messages: those of all sends that precede the reception." No other send, and no reception
  pub earlier_iff : (t : Term) → SentBefore K n t ↔ ((m : Node) × At K m (send t) × Before K m n)
  earlier_iff t = (λ s. (s.sender, s.at, s.before), λ (m, a, b). record { sender = m; at = a; before = b })

  -- "the least set that holds the earlier messages, all tags, all message variables and all atoms not withheld, and is closed"
  pub before_closed : IsClosed (SentBefore K n) (Withheld K) (DerivableBefore K n)
  unfolding DerivableBefore
  before_closed = derivable_closed (SentBefore K n) (Withheld K)

  pub before_least : (P : Term → Type 0) → IsClosed (SentBefore K n) (Withheld K) P → (t : Term) → DerivableBefore K n t → P t
  unfolding DerivableBefore
  before_least P c t d = least (SentBefore K n) (Withheld K) P c d

-- a skeleton is realized when each reception's message is derivable before it
pub realized_iff : (K : Skeleton Term) → Realized K ↔ ((n : Node) (t : Term) → At K n (recv t) → DerivableBefore K n t)
unfolding Realized
realized_iff K = (λ r. r, λ r. r)

-- where nothing is sent, a term is derivable only if it can be built: no part of it is withheld
module _ (withheld : Atom → Type 0) where
  unfoldable pub Built : Term → Type 0
  Built (tag n) = Unit {0}
  Built (mesg n) = Unit {0}
  Built (atom a) = ¬ withheld a
  Built (pair t u) = Built t × Built u
  Built (enc t k) = Built t × Built k
  Built (hash t) = Built t

  pub built_only : (sent : Term → Type 0) → ((t : Term) → ¬ sent t) → (t : Term) → Derivable sent withheld t → Built t
  unfolding Built
  built_only sent none t d =
      least sent withheld Built
      (record {
        has_sent = λ t s. absurd (none t s);
        has_tag = λ n. tt;
        has_mesg = λ n. tt;
        has_atom = λ a h. h;
        joins = λ t u d e. (d, e);
        splits_left = λ t u d. d.0;
        splits_right = λ t u d. d.1;
        encrypts = λ t k d e. (d, e);
        decrypts = λ t k d e. d.0;
        hashes = λ t d. d;
      })
      d
