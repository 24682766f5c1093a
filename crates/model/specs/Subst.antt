-- "some sort-keeping substitution (message variable: any term; asymmetric key: any kind 6, 7 or 8 term; symmetric key:
-- kind 5 or 9; others: own kind)". The sorts are built into the type.
use Rattle.std.specs.Prelude.{Bool, true, false, not, ℕ}
use Rattle.model.specs.Term.{Sym, skey, ltk, Asym, akey, pubk, Atom, text, datum, name, symmetric, asymmetric, Term, tag, mesg, atom, pair, enc, hash}

pub record Subst : Type 0 where
  pub to_mesg : ℕ → Term
  pub to_text : ℕ → ℕ
  pub to_datum : ℕ → ℕ
  pub to_name : ℕ → ℕ
  pub to_sym : ℕ → Sym
  -- whether the image stands inverted, and the key in it
  pub to_asym : ℕ → Bool × Asym

-- a key that stands inverted takes the inverse of its image
unfoldable pub turned : Bool → Bool → Bool
turned true i = not i
turned false i = i

unfoldable pub on_sym : Subst → Sym → Sym
on_sym σ (skey n) = σ.to_sym n
on_sym σ (ltk a b) = ltk (σ.to_name a) (σ.to_name b)

unfoldable pub on_asym : Subst → Asym → Bool × Asym
on_asym σ (akey n) = σ.to_asym n
on_asym σ (pubk a) = (false, pubk (σ.to_name a))

unfoldable pub on_atom : Subst → Atom → Atom
on_atom σ (text n) = text (σ.to_text n)
on_atom σ (datum n) = datum (σ.to_datum n)
on_atom σ (name n) = name (σ.to_name n)
on_atom σ (symmetric k) = symmetric (on_sym σ k)
on_atom σ (asymmetric i k) = asymmetric (turned i (on_asym σ k).0) (on_asym σ k).1

-- the term with each variable replaced; a tag goes to itself
unfoldable pub apply : Subst → Term → Term
apply σ (tag n) = tag n
apply σ (mesg n) = σ.to_mesg n
apply σ (atom a) = atom (on_atom σ a)
apply σ (pair t u) = pair (apply σ t) (apply σ u)
apply σ (enc t k) = enc (apply σ t) (apply σ k)
apply σ (hash t) = hash (apply σ t)

-- "1 to 6 are variables"
pub data Variable : Term → Type 0 where
  a_mesg : {n : ℕ} → Variable (mesg n)
  a_text : {n : ℕ} → Variable (atom (text n))
  a_datum : {n : ℕ} → Variable (atom (datum n))
  a_name : {n : ℕ} → Variable (atom (name n))
  an_skey : {n : ℕ} → Variable (atom (symmetric (skey n)))
  an_akey : {n : ℕ} → Variable (atom (asymmetric false (akey n)))
