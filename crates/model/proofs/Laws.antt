-- The paper's sentences as laws, so that a wrong edit of a definition is refused.
use Rattle.std.specs.Prelude.{◌≡◌, Bool, false, not, ◌≢◌, ◌⊎◌, ℕ}
use Rattle.std.proofs.Math.Path.{refl}
use Rattle.std.proofs.Common.{sym as back, ⊎_elim, arith}
use Rattle.std.proofs.Math.Bool.{true}
use Rattle.std.proofs.Math.Logic.{inl, inr}
use Rattle.model.specs.Term.{Asym, Atom, text, datum, name, symmetric, asymmetric, Term, tag, mesg, atom, pair, enc, hash, flip, inv}
use Rattle.model.specs.Carry.{Carries, here, left, right, body, Passes, OnlyWithin}
use Rattle.model.specs.Subst.{Subst, turned, on_atom, apply}
use Rattle.model.specs.Derive.{Derivable, given, a_tag, a_mesg, an_atom, join, split_left, split_right, encrypt, decrypt, make_hash}

-- "every term carries itself"
pub carries_itself : (t : Term) → Carries t t
carries_itself t = here

-- what a pair carries is the pair or carried by a half: one direction of `pair_carries_iff`
pub pair_carries : {t u v : Term} → Carries t (pair u v) → (t ≡ pair u v) ⊎ (Carries t u ⊎ Carries t v)
pair_carries here = inl refl
pair_carries (left p) = inr (search (p, inl, inr))
pair_carries (right p) = inr (search (p, inl, inr))

-- what an encryption carries is itself or carried by its body: one direction of `enc_carries_iff`
pub enc_carries : {t u k : Term} → Carries t (enc u k) → (t ≡ enc u k) ⊎ Carries t u
enc_carries here = inl refl
enc_carries (body p) = inr p

-- "Hashes and atoms carry nothing further."
pub hash_carries : {t u : Term} → Carries t (hash u) → t ≡ hash u
hash_carries here = refl

pub atom_carries : {t : Term} {a : Atom} → Carries t (atom a) → t ≡ atom a
atom_carries here = refl

-- "If t' doesn't carry t, the answer is yes. Membership of t itself in S protects nothing."
pub uncarried_within : (S : Term → Type 0) {t u : Term} → ¬ Carries t u → OnlyWithin S t u
unfolding OnlyWithin
uncarried_within S n p = absurd (n p)

pub never_within_itself : (S : Term → Type 0) (t : Term) → ¬ OnlyWithin S t t
unfolding OnlyWithin Passes
never_within_itself S t h = h here

-- an encryption in S protects what is below it; `within_pair` says so of a pair
pub within_enc : (S : Term → Type 0) {t u k : Term} → S (enc u k) → t ≢ enc u k → OnlyWithin S t (enc u k)
unfolding OnlyWithin Passes
within_enc S s n here = absurd (n refl)
within_enc S s n (body p) = inl s

-- "the inverse taken twice gives the key back, also after a substitution; every other term is its own"
pub not-not : (b : Bool) → not (not b) ≡ b
not-not true = refl
not-not false = refl

pub flip-flip : (a : Atom) → flip (flip a) ≡ a
unfolding flip
flip-flip (text n) = refl
flip-flip (datum n) = refl
flip-flip (name n) = refl
flip-flip (symmetric k) = refl
flip-flip (asymmetric i k) = simp not-not

pub inv-inv : (t : Term) → inv (inv t) ≡ t
unfolding inv
inv-inv (tag n) = refl
inv-inv (mesg n) = refl
inv-inv (atom a) = rw flip-flip
inv-inv (pair t u) = refl
inv-inv (enc t k) = refl
inv-inv (hash t) = refl

pub key_inverse : (i : Bool) (k : Asym) → inv (atom (asymmetric i k)) ≡ atom (asymmetric (not i) k)
unfolding inv flip
key_inverse i k = refl

pub own_inverse : (t : Term) → ((i : Bool) (k : Asym) → t ≢ atom (asymmetric i k)) → inv t ≡ t
unfolding inv flip
own_inverse (tag n) h = refl
own_inverse (mesg n) h = refl
own_inverse (atom (text n)) h = refl
own_inverse (atom (datum n)) h = refl
own_inverse (atom (name n)) h = refl
own_inverse (atom (symmetric k)) h = refl
own_inverse (atom (asymmetric i k)) h = absurd (h i k refl)
own_inverse (pair t u) h = refl
own_inverse (enc t k) h = refl
own_inverse (hash t) h = refl

-- a substitution keeps inverses, but for a message variable, which no key is and whose image could be anything
pub flip_on_atom : (σ : Subst) (a : Atom) → flip (on_atom σ a) ≡ on_atom σ (flip a)
unfolding flip on_atom turned
flip_on_atom σ (text n) = refl
flip_on_atom σ (datum n) = refl
flip_on_atom σ (name n) = refl
flip_on_atom σ (symmetric k) = refl
flip_on_atom σ (asymmetric true k) = rw not-not
flip_on_atom σ (asymmetric false k) = refl

pub inv_apply : (σ : Subst) (t : Term) → ((n : ℕ) → t ≢ mesg n) → inv (apply σ t) ≡ apply σ (inv t)
unfolding inv apply
inv_apply σ (tag n) h = refl
inv_apply σ (mesg n) h = absurd (h n refl)
inv_apply σ (atom a) h = rw flip_on_atom
inv_apply σ (pair t u) h = refl
inv_apply σ (enc t k) h = refl
inv_apply σ (hash t) h = refl

pub inverse_undone : (σ : Subst) (a : Atom) → inv (apply σ (inv (atom a))) ≡ apply σ (atom a)
unfolding inv apply
inverse_undone σ a = rw (flip_on_atom, flip-flip)

-- a tag goes to itself only
pub tag_stays : (σ : Subst) (n : ℕ) → apply σ (tag n) ≡ tag n
unfolding apply
tag_stays σ n = refl

-- "Derivable terms are the least set": it lies in every set that has what it starts from and is closed
module _ (sent : Term → Type 0) (withheld : Atom → Type 0) where
  pub record IsClosed (P : Term → Type 0) : Type 0 where
    pub has_sent : (t : Term) → sent t → P t
    pub has_tag : (n : ℕ) → P (tag n)
    pub has_mesg : (n : ℕ) → P (mesg n)
    pub has_atom : (a : Atom) → ¬ withheld a → P (atom a)
    pub joins : (t u : Term) → P t → P u → P (pair t u)
    pub splits_left : (t u : Term) → P (pair t u) → P t
    pub splits_right : (t u : Term) → P (pair t u) → P u
    pub encrypts : (t k : Term) → P t → P k → P (enc t k)
    pub decrypts : (t k : Term) → P (enc t k) → P (inv k) → P t
    pub hashes : (t : Term) → P t → P (hash t)

  pub least : (P : Term → Type 0) → IsClosed P → {t : Term} → Derivable sent withheld t → P t
  least P c (given h) = c.has_sent _ h
  least P c a_tag = c.has_tag _
  least P c a_mesg = c.has_mesg _
  least P c (an_atom h) = c.has_atom _ h
  least P c (join d e) = c.joins _ _ (least P c d) (least P c e)
  least P c (split_left d) = c.splits_left _ _ (least P c d)
  least P c (split_right d) = c.splits_right _ _ (least P c d)
  least P c (encrypt d e) = c.encrypts _ _ (least P c d) (least P c e)
  least P c (decrypt d e) = c.decrypts _ _ (least P c d) (least P c e)
  least P c (make_hash d) = c.hashes _ (least P c d)

  pub derivable_closed : IsClosed (Derivable sent withheld)
  derivable_closed =
      record {
        has_sent = λ t h. given h;
        has_tag = λ n. a_tag;
        has_mesg = λ n. a_mesg;
        has_atom = λ a h. an_atom h;
        joins = λ t u d e. join d e;
        splits_left = λ t u d. split_left d;
        splits_right = λ t u d. split_right d;
        encrypts = λ t k d e. encrypt d e;
        decrypts = λ t k d e. decrypt d e;
        hashes = λ t d. make_hash d;
      }

  -- a withheld atom that nobody sent is not derivable
  module _ (a : Atom) (held : withheld a) (unsent : (t : Term) → sent t → ¬ Carries (atom a) t) where
    not_carried_closed : IsClosed (λ t. ¬ Carries (atom a) t)
    not_carried_closed =
        record {
          has_sent = unsent;
          has_tag = λ n p. no_tag n p;
          has_mesg = λ n p. no_mesg n p;
          has_atom = λ b n p. let e : a ≡ b = same_atom (atom_carries p) in n (rw e at held);
          joins = λ t u d e p. ⊎_elim no_pair (⊎_elim d e) (pair_carries p);
          splits_left = λ t u d p. d (left p);
          splits_right = λ t u d p. d (right p);
          encrypts = λ t k d e p. ⊎_elim no_enc d (enc_carries p);
          decrypts = λ t k d e p. d (body p);
          hashes = λ t d p. no_hash (hash_carries p);
        }
      where
        same_atom : {b : Atom} → atom a ≡ atom b → a ≡ b
        same_atom e = cc

        no_tag : (n : ℕ) → Carries (atom a) (tag n) → ⊥
        no_tag n = elim [ ]

        no_mesg : (n : ℕ) → Carries (atom a) (mesg n) → ⊥
        no_mesg n = elim [ ]

        no_pair : {t u : Term} → atom a ≡ pair t u → ⊥
        no_pair e = let z : ◌≡◌ {A = ℕ} 0 1 = cc in omega arith

        no_enc : {t u : Term} → atom a ≡ enc t u → ⊥
        no_enc e = let z : ◌≡◌ {A = ℕ} 0 1 = cc in omega arith

        no_hash : {t : Term} → atom a ≡ hash t → ⊥
        no_hash e = let z : ◌≡◌ {A = ℕ} 0 1 = cc in omega arith

    pub withheld_not_derivable : ¬ Derivable sent withheld (atom a)
    withheld_not_derivable d = least (λ t. ¬ Carries (atom a) t) not_carried_closed d here

-- "Decrypting under a public key with that same key" is a slip: a body under it is not opened by it alone
module _ (k : Asym) (s : Atom) (other : (i : Bool) → s ≢ asymmetric i k) where
  -- he is sent the body under the key, and the key
  pub data Sealed : Term → Type 0 where
    the_body : Sealed (enc (atom s) (atom (asymmetric false k)))
    the_key : Sealed (atom (asymmetric false k))

  -- the body and the key's inverse are withheld
  pub data Kept_back : Atom → Type 0 where
    the_secret : Kept_back s
    the_inverse : Kept_back (asymmetric true k)

  -- what he may have: an atom that is not withheld, and a body that is under the key or that he may have
  Had : Term → Type 0
  Had (tag n) = Unit {0}
  Had (mesg n) = Unit {0}
  Had (atom a) = ¬ Kept_back a
  Had (pair t u) = Had t × Had u
  Had (enc t u) = (u ≡ atom (asymmetric false k)) ⊎ Had t
  Had (hash t) = Unit {0}

  key_not_kept : ¬ Kept_back (asymmetric false k)
  key_not_kept h = go h refl
    where
      go : {a : Atom} → Kept_back a → a ≡ asymmetric false k → ⊥
      go the_secret e = other false e
      go the_inverse e = let z : true ≡ false = cc in (let y : ◌≡◌ {A = ℕ} 0 1 = cc in omega arith)

  had_sent : (t : Term) → Sealed t → Had t
  unfolding Had
  had_sent t the_body = inl refl
  had_sent t the_key = key_not_kept

  had_opened : (t u : Term) → Had (enc t u) → Had (inv u) → Had t
  unfolding inv flip Had
  had_opened t u (inl e) h = absurd ((rw e at h) the_inverse)
  had_opened t u (inr d) h = d

  had_closed : IsClosed Sealed Kept_back Had
  unfolding Had
  had_closed =
      record {
        has_sent = had_sent;
        has_tag = λ n. tt;
        has_mesg = λ n. tt;
        has_atom = λ a h. h;
        joins = λ t u d e. (d, e);
        splits_left = λ t u d. d.0;
        splits_right = λ t u d. d.1;
        encrypts = λ t u d e. inr d;
        decrypts = had_opened;
        hashes = λ t d. tt;
      }

  pub not_opened_by_itself : ¬ Derivable Sealed Kept_back (atom s)
  unfolding Had
  not_opened_by_itself d = least Sealed Kept_back Had had_closed d the_secret

  -- with the inverse it is opened
  pub opened_by_inverse : Derivable Sealed (λ a. a ≡ s) (atom s)
  unfolding inv flip
  opened_by_inverse = decrypt (given the_body) (an_atom (λ e. other true (back e)))
