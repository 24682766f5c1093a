-- "Kinds 2 to 9 are atoms": a row of a good table is of these kinds exactly when its term is an atom. "A key isn't a message
-- variable": no body on a good table is under one.
use Rattle.std.specs.Prelude.{◌≡◌, refl, true, false, ◌↔◌, ◌≢◌, List, ℕ, ◌<◌, length}
use Rattle.std.proofs.Common.{◌∙◌, true≢false, arith}
use Rattle.std.proofs.Math.Path.{sym as back}
use Rattle.model.specs.Term.{skey, ltk, akey, pubk, Atom, text, datum, name, symmetric, asymmetric, Term, tag, mesg, atom, pair, enc, hash}
use Rattle.model.specs.Table.{Row, Enc, row, is_atom, meaning, term}
use Rattle.theory.specs.GoodTable.{Earlier, Sorted, Good}
use Rattle.theory.specs.Numbers.{law, row_of, number, row_is}

-- the test is true of the row that an atom must have, and of no other
no_atom : {P : Type 0} → false ≡ true → P
no_atom e = absurd (true≢false (back e))

atom_of_row : (f : Term → ℕ) (t : Term) → is_atom (row_of f t) ≡ true → (a : Atom) × (t ≡ atom a)
unfolding row_of is_atom
atom_of_row f (tag n) e = no_atom e
atom_of_row f (mesg n) e = no_atom e
atom_of_row f (atom a) e = (a, refl)
atom_of_row f (pair t u) e = no_atom e
atom_of_row f (enc t k) e = no_atom e
atom_of_row f (hash t) e = no_atom e

row_of_atom : (f : Term → ℕ) (a : Atom) → is_atom (row_of f (atom a)) ≡ true
unfolding row_of is_atom
row_of_atom f (text n) = refl
row_of_atom f (datum n) = refl
row_of_atom f (name n) = refl
row_of_atom f (symmetric (skey n)) = refl
row_of_atom f (symmetric (ltk a b)) = refl
row_of_atom f (asymmetric false (akey n)) = refl
row_of_atom f (asymmetric false (pubk a)) = refl
row_of_atom f (asymmetric true k) = refl

module _ (rows : List Row) (good : Good rows) (i : ℕ) (inside : i < length rows) where
  pub atom_iff : (is_atom (row rows i) ≡ true) ↔ ((a : Atom) × (term rows i ≡ atom a))
  atom_iff = (
    λ e. atom_of_row (number rows) (term rows i) (rw (row_is rows good i inside) at e),
    λ h. rw (row_is rows good i inside, h.1) (row_of_atom (number rows) h.0),
  )

  pub key_no_variable : {t k : Term} → term rows i ≡ enc t k → (n : ℕ) → k ≢ mesg n
  unfolding row_of meaning Earlier Sorted
  key_no_variable {t} {k} e n h =
      let r : row rows i ≡ Enc (number rows t) (number rows k) = rw e at (row_is rows good i inside) in
      let b : number rows k < i = (rw r at (good.earlier i inside)).1 in
      let q : enc t k ≡ enc (term rows (number rows t)) (term rows (number rows k)) = back e ∙ law rows good i inside r in
      let z : term rows (number rows k) ≡ mesg n = cc in
      (rw r at (good.sorted i inside)) n (rw z at (row_is rows good (number rows k) (omega arith)))
