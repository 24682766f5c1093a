-- The atoms from a place of the table t on, as a set: none yet, and one more.
use mathlib.Core.Path.{◌≡◌, refl}
use mathlib.Core.Bool.{◌||◌}
use mathlib.Core.List.{List}
use Prim.Native.Nat.{ℕ, ◌+◌}
use native.Mathlib.Numerals.{add-one}
use lib.Dec.{eqb}
use Rattle.terms.specs.declared.TermSet.{TermSet}
use Rattle.terms.specs.Set.{mem, IsSetOf}
use Rattle.terms.proofs.Listed.{empty, set_none, set_more}
use Rattle.model.specs.Lists.{upto}
use Rattle.tables.specs.Tables.{byte, atoms_at, skeleton_at}
use Rattle.tables.specs.Assumed.{assumed, count_place, atoms_place}
use Rattle.tables.specs.declared.blocks.Assumed.{Assumed}

module _ (t : List ℕ) (at : ℕ) where
  pub atoms_none : IsSetOf (atoms_at 0 t at) empty
  unfolding atoms_at upto
  atoms_none = set_none

  pub atoms_more : (j : ℕ) {s r : TermSet} → IsSetOf (atoms_at j t at) s
      → ((k : ℕ) → mem r k ≡ (mem s k || eqb k (byte t (at + j))))
      → IsSetOf (atoms_at (j + 1) t at) r
  unfolding atoms_at upto
  atoms_more j is more = rw (add-one j) (set_more (byte t (at + j)) is more)

pub assumed_atoms : (t : List ℕ) (b : ℕ) (which : Assumed)
    → assumed which (skeleton_at t b) ≡ atoms_at (byte t (b + count_place which)) t (b + atoms_place which)
unfolding skeleton_at
assumed_atoms t b Assumed.Non = refl
assumed_atoms t b Assumed.Uniq = refl
