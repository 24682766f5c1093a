-- The arguments of a row occur in its term, and a set that has the arguments of its members has what occurs in them.
-- Assumes nothing.
use mathlib.Core.Path.{◌≡◌}
use mathlib.Core.Bool.{true, false, ◌||◌}
use mathlib.Core.List.{List}
use mathlib.Core.Logic.{⊎_elim}
use Prim.Native.Nat.{ℕ, ◌<◌}
use native.Mathlib.Omega.{arith}
use lib.Dec.{T, eqb, eqb→eq, eqb_refl}
use lib.ListN.{length}
use Rattle.terms.specs.declared.TermSet.{TermSet}
use Rattle.terms.specs.Set.{mem}
use Rattle.model.specs.Term.{pubk, Atom, name, asymmetric, Term, atom, inv, flip}
use Rattle.model.specs.Carry.{Inside, in_inverse, in_pubk, in_ltk_left, in_ltk_right, Occurs, Carries}
use Rattle.model.specs.Table.{Row, Pubk, Inv, Ltk, Pair, Enc, Hash, row, kind, first, second, name_of, meaning, term}
use Rattle.theory.specs.Tests.{or_cases, or_left, or_right}
use Rattle.theory.specs.GoodTable.{Good, Earlier, Sorted, IsName, IsKey}
use Rattle.theory.specs.Numbers.{row_of, law, term_law, number, name_shown, key_shown}
use Rattle.theory.specs.OnSheet.{OnSheet, on_pair, on_enc, on_hash, number_inside, row_at_number}
use Rattle.theory.proofs.Occurring.{occurs_on}
use Rattle.carry.specs.Next.{has_first, has_second, is_part, is_carried}

-- an earlier term that occurs in the term i
pub record PartOf (rows : List Row) (i k : ℕ) : Type 0 where
  pub below : k < i
  pub occurs : Occurs (term rows k) (term rows i)

-- an earlier term that the term i carries
pub record CarriedPart (rows : List Row) (i k : ℕ) : Type 0 where
  pub below : k < i
  pub carries : Carries (term rows k) (term rows i)

pub carries_after : {t u v : Term} → Carries t u → Carries u v → Carries t v
carries_after p Carries.here = p
carries_after p (Carries.left q) = Carries.left (carries_after p q)
carries_after p (Carries.right q) = Carries.right (carries_after p q)
carries_after p (Carries.body q) = Carries.body (carries_after p q)

one_of_two : (P : ℕ → Type 0) (a b k : ℕ) → P a → P b → T (eqb k a || eqb k b) → P k
one_of_two P a b k p q h = ⊎_elim (λ e. rw (eqb→eq k a e) p) (λ e. rw (eqb→eq k b e) q) (or_cases (eqb k a) (eqb k b) h)

the_one : (P : ℕ → Type 0) (a k : ℕ) → P a → T (eqb k a || false) → P k
the_one P a k p h = ⊎_elim (λ e. rw (eqb→eq k a e) p) (λ f. absurd f) (or_cases (eqb k a) false h)

module _ (rows : List Row) (good : Good rows) where
  -- a name that stands inside the atom i
  named : (i a : ℕ) {b : Atom} → i < length rows → a < i → IsName (row rows a) → term rows i ≡ atom b
      → Inside (name (name_of (term rows a))) b → PartOf rows i a
  named i a h l n e k =
      let q : atom (name (name_of (term rows a))) ≡ term rows a = name_shown (term rows) n (term_law rows good a (omega arith)) in
      record { below = l; occurs = rw e (Occurs.inside k (rw q Occurs.here)) }

  pub part_occurs : (i k : ℕ) → i < length rows → (r : Row) → row rows i ≡ r → T (is_part r k) → PartOf rows i k
  unfolding is_part has_first has_second kind first second meaning Earlier Sorted inv flip
  part_occurs i k h (Pubk a) e p =
      let s : IsName (row rows a) = rw e at (good.sorted i h) in
      let c : a < i = rw e at (good.earlier i h) in
      the_one (PartOf rows i) a k (named i a h c s (law rows good i h e) in_pubk) p
  part_occurs i k h (Inv a) e p =
      let s : IsKey (row rows a) = rw e at (good.sorted i h) in
      let c : a < i = rw e at (good.earlier i h) in
      let (y, q) = key_shown (term rows) s (term_law rows good a (omega arith)) in
      let o : Occurs (term rows a) (term rows i) = rw (law rows good i h e, q) (Occurs.inside in_inverse Occurs.here) in
      the_one (PartOf rows i) a k (record { below = c; occurs = o }) p
  part_occurs i k h (Ltk a b) e p =
      let s : IsName (row rows a) × IsName (row rows b) = rw e at (good.sorted i h) in
      let c : (a < i) × (b < i) = rw e at (good.earlier i h) in
      let l = law rows good i h e in
      one_of_two (PartOf rows i) a b k (named i a h c.0 s.0 l in_ltk_left) (named i b h c.1 s.1 l in_ltk_right) p
  part_occurs i k h (Pair a b) e p =
      let c : (a < i) × (b < i) = rw e at (good.earlier i h) in
      let l = law rows good i h e in
      one_of_two (PartOf rows i) a b k (record { below = c.0; occurs = rw l (Occurs.left Occurs.here) })
      (record { below = c.1; occurs = rw l (Occurs.right Occurs.here) }) p
  part_occurs i k h (Enc a b) e p =
      let c : (a < i) × (b < i) = rw e at (good.earlier i h) in
      let l = law rows good i h e in
      one_of_two (PartOf rows i) a b k (record { below = c.0; occurs = rw l (Occurs.body Occurs.here) })
      (record { below = c.1; occurs = rw l (Occurs.key Occurs.here) }) p
  part_occurs i k h (Hash a) e p =
      let c : a < i = rw e at (good.earlier i h) in
      the_one (PartOf rows i) a k (record { below = c; occurs = rw (law rows good i h e) (Occurs.hashed Occurs.here) }) p
  part_occurs i k h _ e p = elim p [ ]

  pub part_carried : (i k : ℕ) → i < length rows → (r : Row) → row rows i ≡ r → T (is_carried r k) → CarriedPart rows i k
  unfolding is_carried kind first second meaning Earlier
  part_carried i k h (Pair a b) e p =
      let c : (a < i) × (b < i) = rw e at (good.earlier i h) in
      let l = law rows good i h e in
      one_of_two (CarriedPart rows i) a b k (record { below = c.0; carries = rw l (Carries.left Carries.here) })
      (record { below = c.1; carries = rw l (Carries.right Carries.here) }) p
  part_carried i k h (Enc a b) e p =
      let c : (a < i) × (b < i) = rw e at (good.earlier i h) in
      the_one (CarriedPart rows i) a k (record { below = c.0; carries = rw (law rows good i h e) (Carries.body Carries.here) }) p
  part_carried i k h _ e p = elim p [ ]

  -- Of a set that has what its members carry
  module _ (s : TermSet) (closed : (j k : ℕ) → j < length rows → T (mem s j) → T (is_carried (row rows j) k) → T (mem s k)) where
    gives : {u : Term} (v : Term) → OnSheet rows u → T (is_carried (row_of (number rows) u) (number rows v))
        → T (mem s (number rows u)) → T (mem s (number rows v))
    gives {u} v on p h =
        closed (number rows u) (number rows v) (number_inside rows good on) h (rw (row_at_number rows good on) p)

    pub has_carried : {t u : Term} → Carries t u → OnSheet rows u → T (mem s (number rows u)) → T (mem s (number rows t))
    unfolding is_carried kind first second row_of
    has_carried Carries.here on h = h
    has_carried (Carries.left {u} {v} o) on h =
        has_carried o (on_pair rows good on).0
        (gives u on (or_left (eqb (number rows u) (number rows u)) _ (eqb_refl (number rows u))) h)
    has_carried (Carries.right {u} {v} o) on h =
        has_carried o (on_pair rows good on).1
        (gives v on (or_right (eqb (number rows v) (number rows u)) _ (eqb_refl (number rows v))) h)
    has_carried (Carries.body {u} {k} o) on h =
        has_carried o (on_enc rows good on).0
        (gives u on (or_left (eqb (number rows u) (number rows u)) false (eqb_refl (number rows u))) h)

  -- Of a set that has the arguments of its members
  module _ (s : TermSet) (closed : (j k : ℕ) → j < length rows → T (mem s j) → T (is_part (row rows j) k) → T (mem s k)) where
    Has : Term → Type 0
    Has u = T (mem s (number rows u))

    down : {u : Term} (v : Term) → OnSheet rows u → T (is_part (row_of (number rows) u) (number rows v)) → Has u → Has v
    unfolding Has
    down {u} v on p h =
        closed (number rows u) (number rows v) (number_inside rows good on) h (rw (row_at_number rows good on) p)

    one : (v : Term) → T (eqb (number rows v) (number rows v) || false)
    one v = or_left (eqb (number rows v) (number rows v)) false (eqb_refl (number rows v))

    left : (v w : Term) → T (eqb (number rows v) (number rows v) || eqb (number rows v) (number rows w))
    left v w = or_left (eqb (number rows v) (number rows v)) _ (eqb_refl (number rows v))

    right : (v w : Term) → T (eqb (number rows w) (number rows v) || eqb (number rows w) (number rows w))
    right v w = or_right (eqb (number rows w) (number rows v)) _ (eqb_refl (number rows w))

    inner : {a b : Atom} → Inside a b → OnSheet rows (atom b) → Has (atom b) → Has (atom a)
    unfolding is_part has_first has_second kind first second row_of
    inner (in_inverse {k}) on h = let v = atom (asymmetric false k) in down v on (one v) h
    inner (in_pubk {i = false} {a}) on h = let v = atom (name a) in down v on (one v) h
    inner (in_pubk {i = true} {a}) on h =
        let u = atom (asymmetric false (pubk a)) in
        let v = atom (name a) in
        down {u = u} v (occurs_on rows good (Occurs.inside in_inverse Occurs.here) on) (one v) (down u on (one u) h)
    inner (in_ltk_left {a} {b}) on h = let v = atom (name a) in down v on (left v (atom (name b))) h
    inner (in_ltk_right {a} {b}) on h = let w = atom (name b) in down w on (right (atom (name a)) w) h

    has_what_occurs : {t u : Term} → Occurs t u → OnSheet rows u → Has u → Has t
    unfolding is_part has_first has_second kind first second row_of
    has_what_occurs Occurs.here on h = h
    has_what_occurs (Occurs.left {u} {v} o) on h = has_what_occurs o (on_pair rows good on).0 (down u on (left u v) h)
    has_what_occurs (Occurs.right {u} {v} o) on h = has_what_occurs o (on_pair rows good on).1 (down v on (right u v) h)
    has_what_occurs (Occurs.body {u} {k} o) on h = has_what_occurs o (on_enc rows good on).0 (down u on (left u k) h)
    has_what_occurs (Occurs.key {u} {k} o) on h = has_what_occurs o (on_enc rows good on).1 (down k on (right u k) h)
    has_what_occurs (Occurs.hashed {u} o) on h = has_what_occurs o (on_hash rows good on) (down u on (one u) h)
    has_what_occurs (Occurs.inside i o) on h =
        has_what_occurs o (occurs_on rows good (Occurs.inside i Occurs.here) on) (inner i on h)

    pub has_occurring : {t u : Term} → Occurs t u → OnSheet rows u → T (mem s (number rows u)) → T (mem s (number rows t))
    unfolding Has
    has_occurring o on h = has_what_occurs o on h
