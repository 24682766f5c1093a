-- Substitutions compose, and are settled by the images of the variables.
use Rattle.std.specs.Prelude.{◌≡◌, Bool, ℕ}
use Rattle.std.proofs.Math.Path.{refl, ap, ap₂}
use Rattle.std.proofs.Math.Bool.{true, false}
use Rattle.model.specs.Subst.{Subst, turned, on_sym, on_asym, on_atom, apply, Variable, a_mesg, a_text, a_datum, a_name, an_skey, an_akey}
use Rattle.model.specs.Term.{Sym, skey, ltk, Asym, akey, pubk, Atom, text, datum, name, symmetric, asymmetric, Term, tag, mesg, atom, pair, enc, hash, flip}
use Rattle.model.specs.Carry.{Inside, in_inverse, in_pubk, in_ltk_left, in_ltk_right, Occurs, here, left, right, body, key, hashed, inside}
use Rattle.model.proofs.Laws.{not-not}

-- The plain substitution, and one after another

unfoldable pub plain : Subst
plain = record {
  to_mesg = mesg;
  to_text = λ n. n;
  to_datum = λ n. n;
  to_name = λ n. n;
  to_sym = skey;
  to_asym = λ n.
      (false, akey n);
}

turned_false : (i : Bool) → turned i false ≡ i
unfolding turned
turned_false true = refl
turned_false false = refl

pub on_atom_plain : (a : Atom) → on_atom plain a ≡ a
unfolding on_atom plain on_sym on_asym
on_atom_plain (text n) = refl
on_atom_plain (datum n) = refl
on_atom_plain (name n) = refl
on_atom_plain (symmetric (skey n)) = refl
on_atom_plain (symmetric (ltk a b)) = refl
on_atom_plain (asymmetric i (akey n)) = rw turned_false
on_atom_plain (asymmetric i (pubk n)) = rw turned_false

pub apply_plain : (t : Term) → apply plain t ≡ t
unfolding apply plain
apply_plain (tag n) = refl
apply_plain (mesg n) = refl
apply_plain (atom a) = rw on_atom_plain
apply_plain (pair t u) = ap₂ pair (apply_plain t) (apply_plain u)
apply_plain (enc t k) = ap₂ enc (apply_plain t) (apply_plain k)
apply_plain (hash t) = ap hash (apply_plain t)

-- an asymmetric key with its flag
unfoldable pub on_key : Subst → Bool × Asym → Bool × Asym
on_key σ k = (turned k.0 (on_asym σ k.1).0, (on_asym σ k.1).1)

unfoldable pub ◌then◌ : Subst → Subst → Subst
◌then◌ σ τ =
    record {
      to_mesg = λ n. apply τ (σ.to_mesg n);
      to_text = λ n. τ.to_text (σ.to_text n);
      to_datum = λ n. τ.to_datum (σ.to_datum n);
      to_name = λ n. τ.to_name (σ.to_name n);
      to_sym = λ n. on_sym τ (σ.to_sym n);
      to_asym = λ n. on_key τ (σ.to_asym n);
    }

turned_turned : (i j k : Bool) → turned (turned i j) k ≡ turned i (turned j k)
unfolding turned
turned_turned true true k = rw not-not
turned_turned true false k = refl
turned_turned false j k = refl

on_sym_then : (σ τ : Subst) (k : Sym) → on_sym (◌then◌ σ τ) k ≡ on_sym τ (on_sym σ k)
unfolding ◌then◌ on_sym
on_sym_then σ τ (skey n) = refl
on_sym_then σ τ (ltk a b) = refl

on_asym_then : (σ τ : Subst) (k : Asym) → on_asym (◌then◌ σ τ) k ≡ on_key τ (on_asym σ k)
unfolding ◌then◌ on_asym on_key turned
on_asym_then σ τ (akey n) = refl
on_asym_then σ τ (pubk a) = refl

pub on_atom_then : (σ τ : Subst) (a : Atom) → on_atom (◌then◌ σ τ) a ≡ on_atom τ (on_atom σ a)
unfolding ◌then◌ on_atom on_key
on_atom_then σ τ (text n) = refl
on_atom_then σ τ (datum n) = refl
on_atom_then σ τ (name n) = refl
on_atom_then σ τ (symmetric k) = rw (on_sym_then σ τ k)
on_atom_then σ τ (asymmetric i k) = rw (on_asym_then σ τ k, turned_turned)

pub apply_then : (σ τ : Subst) (t : Term) → apply (◌then◌ σ τ) t ≡ apply τ (apply σ t)
unfolding ◌then◌ apply
apply_then σ τ (tag n) = refl
apply_then σ τ (mesg n) = refl
apply_then σ τ (atom a) = rw (on_atom_then σ τ a)
apply_then σ τ (pair t u) = ap₂ pair (apply_then σ τ t) (apply_then σ τ u)
apply_then σ τ (enc t k) = ap₂ enc (apply_then σ τ t) (apply_then σ τ k)
apply_then σ τ (hash t) = ap hash (apply_then σ τ t)

-- A message's image decides the image of all that occurs in it

module _ (σ τ : Subst) where
  agree_inside : {a b : Atom} → Inside a b → on_atom σ b ≡ on_atom τ b → on_atom σ a ≡ on_atom τ a
  unfolding on_atom turned on_asym on_sym flip
  agree_inside in_inverse e = simp not-not at (ap flip e)
  agree_inside in_pubk e = cc
  agree_inside in_ltk_left e = cc
  agree_inside in_ltk_right e = cc

  pub agree : {t u : Term} → Occurs t u → apply σ u ≡ apply τ u → apply σ t ≡ apply τ t
  unfolding apply
  agree here e = e
  agree (left p) e = agree p (cc)
  agree (right p) e = agree p (cc)
  agree (body p) e = agree p (cc)
  agree (key p) e = agree p (cc)
  agree (hashed p) e = agree p (cc)
  agree (inside i p) e = agree p (ap atom (agree_inside i (cc)))

-- Equal images of the variables make equal images

module _ (σ τ : Subst) where
  abbrev pub SameOn : Term → Type 0
  SameOn t = (x : Term) → Variable x → Occurs x t → apply σ x ≡ apply τ x

  names_agree : (a : ℕ) → apply σ (atom (name a)) ≡ apply τ (atom (name a)) → σ.to_name a ≡ τ.to_name a
  unfolding apply on_atom
  names_agree a e = cc

  keys_agree : (n : ℕ) → apply σ (atom (asymmetric false (akey n))) ≡ apply τ (atom (asymmetric false (akey n)))
      → σ.to_asym n ≡ τ.to_asym n
  unfolding apply on_atom turned on_asym
  keys_agree n e =
      let p : (σ.to_asym n).0 ≡ (τ.to_asym n).0 = cc in
      let q : (σ.to_asym n).1 ≡ (τ.to_asym n).1 = cc in
      λ i. (p i, q i)

  atoms_agree : (a : Atom) → SameOn (atom a) → on_atom σ a ≡ on_atom τ a
  unfolding apply on_atom on_sym on_asym
  atoms_agree (text n) h = let e = h _ a_text here in cc
  atoms_agree (datum n) h = let e = h _ a_datum here in cc
  atoms_agree (name n) h = let e = h _ a_name here in cc
  atoms_agree (symmetric (skey n)) h = let e = h _ an_skey here in cc
  atoms_agree (symmetric (ltk a b)) h =
      rw (names_agree a (h _ a_name (inside in_ltk_left here)), names_agree b (h _ a_name (inside in_ltk_right here)))
  atoms_agree (asymmetric i (pubk a)) h = rw (names_agree a (h _ a_name (inside in_pubk here)))
  atoms_agree (asymmetric true (akey n)) h = rw (keys_agree n (h _ an_akey (inside in_inverse here)))
  atoms_agree (asymmetric false (akey n)) h = rw (keys_agree n (h _ an_akey here))

  pub same_images : (t : Term) → SameOn t → apply σ t ≡ apply τ t
  unfolding apply
  same_images (tag n) h = refl
  same_images (mesg n) h = h _ a_mesg here
  same_images (atom a) h = ap atom (atoms_agree a h)
  same_images (pair t u) h = ap₂ pair (same_images t (λ x v o. h x v (left o))) (same_images u (λ x v o. h x v (right o)))
  same_images (enc t k) h = ap₂ enc (same_images t (λ x v o. h x v (body o))) (same_images k (λ x v o. h x v (key o)))
  same_images (hash t) h = ap hash (same_images t (λ x v o. h x v (hashed o)))
