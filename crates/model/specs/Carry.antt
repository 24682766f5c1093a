-- "Carrying (001): every term carries itself; a pair carries what either half carries; an encryption carries what its
-- body carries, and its key only if the body does. Hashes and atoms carry nothing further. Occurring goes into every
-- part: bodies, keys, what is hashed, and the key or names inside an atom."
use Rattle.std.specs.Prelude.{Bool, true, false, ◌⊎◌, ℕ}
use Rattle.model.specs.Term.{Asym, pubk, ltk, Atom, name, symmetric, asymmetric, Term, atom, pair, enc, hash}

-- a proof that u carries t is a path from u down to t
pub data Carries (t : Term) : Term → Type 0 where
  here : Carries t t
  left : {u v : Term} → Carries t u → Carries t (pair u v)
  right : {u v : Term} → Carries t v → Carries t (pair u v)
  body : {u k : Term} → Carries t u → Carries t (enc u k)

-- what stands inside an atom: the key in its inverse, the names in a key
pub data Inside : Atom → Atom → Type 0 where
  in_inverse : {k : Asym} → Inside (asymmetric false k) (asymmetric true k)
  in_pubk : {i : Bool} {a : ℕ} → Inside (name a) (asymmetric i (pubk a))
  in_ltk_left : {a b : ℕ} → Inside (name a) (symmetric (ltk a b))
  in_ltk_right : {a b : ℕ} → Inside (name b) (symmetric (ltk a b))

pub data Occurs (t : Term) : Term → Type 0 where
  here : Occurs t t
  left : {u v : Term} → Occurs t u → Occurs t (pair u v)
  right : {u v : Term} → Occurs t v → Occurs t (pair u v)
  body : {u k : Term} → Occurs t u → Occurs t (enc u k)
  key : {u k : Term} → Occurs t k → Occurs t (enc u k)
  hashed : {u : Term} → Occurs t u → Occurs t (hash u)
  inside : {a b : Atom} → Inside a b → Occurs t (atom a) → Occurs t (atom b)

-- "A term t is carried only within a set S in t' when each carrying path from t' down to t passes a member of S
-- strictly above its last place. If t' doesn't carry t, the answer is yes. Membership of t itself in S protects
-- nothing."
module _ (S : Term → Type 0) where
  -- the path passes a member of the set strictly above its last place
  unfoldable pub Passes : {t u : Term} → Carries t u → Type 0
  Passes here = ⊥
  Passes (left {u = u} {v = v} p) = S (pair u v) ⊎ Passes p
  Passes (right {u = u} {v = v} p) = S (pair u v) ⊎ Passes p
  Passes (body {u = u} {k = k} p) = S (enc u k) ⊎ Passes p

  unfoldable pub OnlyWithin : Term → Term → Type 0
  OnlyWithin t u = (p : Carries t u) → Passes p
