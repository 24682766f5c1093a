-- Laws of messages, each way: what is carried and what is not, where a term occurs, what a set protects, what a substitution
-- does.
use Rattle.std.specs.Prelude.{◌≡◌, Bool, true, false, ◌↔◌, ◌≢◌, ◌⊎◌, ℕ}
use Rattle.std.proofs.Math.Path.{refl}
use Rattle.std.proofs.Common.{sym as back, inl, inr, ⊎_elim}
use Rattle.model.specs.Term.{Sym, skey, ltk, Asym, akey, pubk, Atom, text, datum, name, symmetric, asymmetric, Term, tag, mesg, atom, pair, enc, hash}
use Rattle.model.specs.Carry.{Carries, Inside, Occurs, Passes, OnlyWithin}
use Rattle.model.specs.Subst.{Subst, turned, on_sym, on_asym, on_atom, apply, Variable}
use Rattle.model.proofs.Laws.{pair_carries, enc_carries}

-- CARRYING

-- "a pair carries what either half carries", and itself, and nothing else
pub pair_carries_iff : (t u v : Term) → Carries t (pair u v) ↔ ((t ≡ pair u v) ⊎ (Carries t u ⊎ Carries t v))
pair_carries_iff t u v =
    (pair_carries, ⊎_elim (λ e. rw (back e) Carries.here) (⊎_elim (λ p. Carries.left p) (λ p. Carries.right p)))

-- "an encryption carries what its body carries, and its key only if the body does"
pub enc_carries_iff : (t u k : Term) → Carries t (enc u k) ↔ ((t ≡ enc u k) ⊎ Carries t u)
enc_carries_iff t u k = (enc_carries, ⊎_elim (λ e. rw (back e) Carries.here) (λ p. Carries.body p))

-- tags and message variables carry nothing further either
pub tag_carries : {t : Term} {n : ℕ} → Carries t (tag n) → t ≡ tag n
tag_carries Carries.here = refl

pub mesg_carries : {t : Term} {n : ℕ} → Carries t (mesg n) → t ≡ mesg n
mesg_carries Carries.here = refl

-- OCCURRING: "into every part: bodies, keys, what is hashed, and the key or names inside an atom"

pub occurs_in_pair : (t u v : Term) → Occurs t (pair u v) ↔ ((t ≡ pair u v) ⊎ (Occurs t u ⊎ Occurs t v))
occurs_in_pair t u v =
    (go, ⊎_elim (λ e. rw (back e) Occurs.here) (⊎_elim (λ p. Occurs.left p) (λ p. Occurs.right p)))
  where
    go : {s : Term} → Occurs s (pair u v) → (s ≡ pair u v) ⊎ (Occurs s u ⊎ Occurs s v)
    go Occurs.here = inl refl
    go (Occurs.left p) = inr (inl p)
    go (Occurs.right p) = inr (inr p)

pub occurs_in_enc : (t u k : Term) → Occurs t (enc u k) ↔ ((t ≡ enc u k) ⊎ (Occurs t u ⊎ Occurs t k))
occurs_in_enc t u k =
    (go, ⊎_elim (λ e. rw (back e) Occurs.here) (⊎_elim (λ p. Occurs.body p) (λ p. Occurs.key p)))
  where
    go : {s : Term} → Occurs s (enc u k) → (s ≡ enc u k) ⊎ (Occurs s u ⊎ Occurs s k)
    go Occurs.here = inl refl
    go (Occurs.body p) = inr (inl p)
    go (Occurs.key p) = inr (inr p)

pub occurs_in_hash : (t u : Term) → Occurs t (hash u) ↔ ((t ≡ hash u) ⊎ Occurs t u)
occurs_in_hash t u = (go, ⊎_elim (λ e. rw (back e) Occurs.here) (λ p. Occurs.hashed p))
  where
    go : {s : Term} → Occurs s (hash u) → (s ≡ hash u) ⊎ Occurs s u
    go Occurs.here = inl refl
    go (Occurs.hashed p) = inr p

-- what occurs in an atom is the atom, or occurs in what stands inside it
pub occurs_in_atom : {t : Term} {a : Atom} → Occurs t (atom a) → (t ≡ atom a) ⊎ ((b : Atom) × Inside b a × Occurs t (atom b))
occurs_in_atom Occurs.here = inl refl
occurs_in_atom (Occurs.inside {a = b} i p) = inr (b, i, p)

-- "the key or names inside an atom"
pub key_in_inverse : (k : Asym) → Occurs (atom (asymmetric false k)) (atom (asymmetric true k))
key_in_inverse k = Occurs.inside Inside.in_inverse Occurs.here

pub name_in_public_key : (i : Bool) (a : ℕ) → Occurs (atom (name a)) (atom (asymmetric i (pubk a)))
name_in_public_key i a = Occurs.inside Inside.in_pubk Occurs.here

pub names_in_long_term_key : (a b : ℕ) → Occurs (atom (name a)) (atom (symmetric (ltk a b)))
    × Occurs (atom (name b)) (atom (symmetric (ltk a b)))
names_in_long_term_key a b = (Occurs.inside Inside.in_ltk_left Occurs.here, Occurs.inside Inside.in_ltk_right Occurs.here)

-- and nothing else
pub inside_inverse : {b : Atom} {k : Asym} → Inside b (asymmetric true k)
    → (b ≡ asymmetric false k) ⊎ ((a : ℕ) × (k ≡ pubk a) × (b ≡ name a))
inside_inverse Inside.in_inverse = inl refl
inside_inverse (Inside.in_pubk {a = a}) = inr (a, refl, refl)

pub inside_key : {b : Atom} {k : Asym} → Inside b (asymmetric false k) → (a : ℕ) × (k ≡ pubk a) × (b ≡ name a)
inside_key (Inside.in_pubk {a = a}) = (a, refl, refl)

pub inside_symmetric : {b : Atom} {c d : ℕ} → Inside b (symmetric (ltk c d)) → (b ≡ name c) ⊎ (b ≡ name d)
inside_symmetric Inside.in_ltk_left = inl refl
inside_symmetric Inside.in_ltk_right = inr refl

-- what has no parts, and nothing inside it
abbrev HasParts : Atom → Type 0
HasParts (text n) = ⊥
HasParts (datum n) = ⊥
HasParts (name n) = ⊥
HasParts (symmetric (skey n)) = ⊥
HasParts (symmetric (ltk a b)) = Unit {0}
HasParts (asymmetric i k) = Unit {0}

has_parts : {b a : Atom} → Inside b a → HasParts a
has_parts Inside.in_inverse = tt
has_parts Inside.in_pubk = tt
has_parts Inside.in_ltk_left = tt
has_parts Inside.in_ltk_right = tt

pub inside_nothing : {b : Atom} (n : ℕ) → (¬ Inside b (text n)) × (¬ Inside b (datum n)) × (¬ Inside b (name n))
    × (¬ Inside b (symmetric (skey n)))
inside_nothing n = (has_parts, has_parts, has_parts, has_parts)

-- CARRIED ONLY WITHIN: "each carrying path from t' down to t passes a member of S strictly above its last place"

-- a pair in S protects what is below it, in either half
pub within_pair : (S : Term → Type 0) {t u v : Term} → S (pair u v) → t ≢ pair u v → OnlyWithin S t (pair u v)
unfolding OnlyWithin Passes
within_pair S s n Carries.here = absurd (n refl)
within_pair S s n (Carries.left p) = inl s
within_pair S s n (Carries.right p) = inl s

-- a pair that is not in S protects nothing: each half has to; an encryption that is not in S: its body has to
pub within_halves : (S : Term → Type 0) (t : Term) {u v : Term} → ¬ S (pair u v)
    → OnlyWithin S t (pair u v) → OnlyWithin S t u × OnlyWithin S t v
unfolding OnlyWithin Passes
within_halves S t n h = (
  λ p. ⊎_elim (λ s. absurd (n s)) (λ q. q) (h (Carries.left p)),
  λ p. ⊎_elim (λ s. absurd (n s)) (λ q. q) (h (Carries.right p)),
)

pub within_body : (S : Term → Type 0) (t : Term) {u k : Term} → ¬ S (enc u k) → OnlyWithin S t (enc u k) → OnlyWithin S t u
unfolding OnlyWithin Passes
within_body S t n h p = ⊎_elim (λ s. absurd (n s)) (λ q. q) (h (Carries.body p))

-- and that is enough
pub halves_within : (S : Term → Type 0) {t u v : Term} → t ≢ pair u v → OnlyWithin S t u → OnlyWithin S t v
    → OnlyWithin S t (pair u v)
unfolding OnlyWithin Passes
halves_within S n g h Carries.here = absurd (n refl)
halves_within S n g h (Carries.left p) = inr (g p)
halves_within S n g h (Carries.right p) = inr (h p)

pub body_within : (S : Term → Type 0) {t u k : Term} → t ≢ enc u k → OnlyWithin S t u → OnlyWithin S t (enc u k)
unfolding OnlyWithin Passes
body_within S n g Carries.here = absurd (n refl)
body_within S n g (Carries.body p) = inr (g p)

-- SUBSTITUTIONS: "message variable: any term; asymmetric key: any kind 6, 7 or 8 term; symmetric key: kind 5 or 9; others: own
-- kind"

-- one that takes each variable of a sort to one image
one_for_all : Term → ℕ → Sym → Bool × Asym → Subst
one_for_all t n s k =
    record {
      to_mesg = λ _. t;
      to_text = λ _. n;
      to_datum = λ _. n;
      to_name = λ _. n;
      to_sym = λ _. s;
      to_asym = λ _. k;
    }

-- some substitution takes the term to the other
abbrev Goes : Term → Term → Type 0
Goes t u = (σ : Subst) × (apply σ t ≡ u)

pub variable_to_any : (n : ℕ) (t : Term) → Goes (mesg n) t
unfolding one_for_all apply
variable_to_any n t = (one_for_all t 0 (skey 0) (false, akey 0), refl)

pub key_to_any : (n : ℕ) (i : Bool) (k : Asym) → Goes (atom (asymmetric false (akey n))) (atom (asymmetric i k))
unfolding one_for_all apply on_atom on_asym turned
key_to_any n i k = (one_for_all (mesg 0) 0 (skey 0) (i, k), refl)

pub symmetric_to_any : (n : ℕ) (s : Sym) → Goes (atom (symmetric (skey n))) (atom (symmetric s))
unfolding one_for_all apply on_atom on_sym
symmetric_to_any n s = (one_for_all (mesg 0) 0 s (false, akey 0), refl)

pub text_to_text : (n m : ℕ) → Goes (atom (text n)) (atom (text m))
unfolding one_for_all apply on_atom
text_to_text n m = (one_for_all (mesg 0) m (skey 0) (false, akey 0), refl)

pub datum_to_datum : (n m : ℕ) → Goes (atom (datum n)) (atom (datum m))
unfolding one_for_all apply on_atom
datum_to_datum n m = (one_for_all (mesg 0) m (skey 0) (false, akey 0), refl)

pub name_to_name : (n m : ℕ) → Goes (atom (name n)) (atom (name m))
unfolding one_for_all apply on_atom
name_to_name n m = (one_for_all (mesg 0) m (skey 0) (false, akey 0), refl)

-- the sorts are kept
module _ (σ : Subst) where
  pub stays_a_key : (n : ℕ) → (i : Bool) × (k : Asym) × (apply σ (atom (asymmetric false (akey n))) ≡ atom (asymmetric i k))
  unfolding apply on_atom on_asym turned
  stays_a_key n = ((σ.to_asym n).0, (σ.to_asym n).1, refl)

  pub stays_symmetric : (n : ℕ) → (s : Sym) × (apply σ (atom (symmetric (skey n))) ≡ atom (symmetric s))
  unfolding apply on_atom on_sym
  stays_symmetric n = (σ.to_sym n, refl)

  pub stays_a_text : (n : ℕ) → (m : ℕ) × (apply σ (atom (text n)) ≡ atom (text m))
  unfolding apply on_atom
  stays_a_text n = (σ.to_text n, refl)

  pub stays_a_datum : (n : ℕ) → (m : ℕ) × (apply σ (atom (datum n)) ≡ atom (datum m))
  unfolding apply on_atom
  stays_a_datum n = (σ.to_datum n, refl)

  pub stays_a_name : (n : ℕ) → (m : ℕ) × (apply σ (atom (name n)) ≡ atom (name m))
  unfolding apply on_atom
  stays_a_name n = (σ.to_name n, refl)

  -- part by part: a key of names goes to the key of their images
  pub on_pair : (t u : Term) → apply σ (pair t u) ≡ pair (apply σ t) (apply σ u)
  unfolding apply
  on_pair t u = refl

  pub on_enc : (t k : Term) → apply σ (enc t k) ≡ enc (apply σ t) (apply σ k)
  unfolding apply
  on_enc t k = refl

  pub on_hash : (t : Term) → apply σ (hash t) ≡ hash (apply σ t)
  unfolding apply
  on_hash t = refl

  pub on_public_key : (a b : ℕ) → apply σ (atom (name a)) ≡ atom (name b)
      → apply σ (atom (asymmetric false (pubk a))) ≡ atom (asymmetric false (pubk b))
  unfolding apply on_atom on_asym turned
  on_public_key a b e = let z : σ.to_name a ≡ b = cc in rw z

  pub on_long_term_key : (a b c d : ℕ) → apply σ (atom (name a)) ≡ atom (name c) → apply σ (atom (name b)) ≡ atom (name d)
      → apply σ (atom (symmetric (ltk a b))) ≡ atom (symmetric (ltk c d))
  unfolding apply on_atom on_sym
  on_long_term_key a b c d e f = let y : σ.to_name a ≡ c = cc in let z : σ.to_name b ≡ d = cc in rw (y, z)

-- "1 to 6 are variables": message variables, texts, data, names, and keys that are not made from names
pub variables : (n : ℕ) → Variable (mesg n) × Variable (atom (text n)) × Variable (atom (datum n)) × Variable (atom (name n))
    × Variable (atom (symmetric (skey n)))
    × Variable (atom (asymmetric false (akey n)))
variables n = (Variable.a_mesg, Variable.a_text, Variable.a_datum, Variable.a_name, Variable.an_skey, Variable.an_akey)

not_public : (i : Bool) {n : ℕ} → ¬ Variable (atom (asymmetric i (pubk n)))
not_public true = elim [ ]
not_public false = elim [ ]

pub no_variables : (n m : ℕ) (k : Asym) (i : Bool) (t u : Term) → (¬ Variable (tag n)) × (¬ Variable (atom (symmetric (ltk n m))))
    × (¬ Variable (atom (asymmetric i (pubk n))))
    × (¬ Variable (atom (asymmetric true k)))
    × (¬ Variable (pair t u))
    × (¬ Variable (enc t u))
    × (¬ Variable (hash t))
no_variables n m k i t u = (elim [ ], elim [ ], not_public i, elim [ ], elim [ ], elim [ ], elim [ ])
