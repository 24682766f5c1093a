-- In which terms another is loose, from the rows of a good table; and that outside the empty set all is loose that is carried.
-- Assumes nothing.
use mathlib.Core.Path.{◌≡◌, refl, ap, ◌∙◌}
use mathlib.Core.Bool.{Bool, true, not, ◌&&◌, or-false}
use mathlib.Core.List.{List}
use mathlib.Core.Logic.{◌↔◌, ⊎_elim}
use Prim.Native.Nat.{ℕ, ◌<◌}
use lib.Dec.{T, eqb, eqb→eq, eqb_refl, T_not, not_T}
use lib.ListN.{length}
use Rattle.terms.specs.declared.TermSet.{TermSet}
use Rattle.terms.specs.Set.{mem}
use Rattle.terms.proofs.Words.{member_none}
use Rattle.model.specs.Term.{Term}
use Rattle.model.specs.Carry.{Carries}
use Rattle.model.specs.Table.{Row, Pair, Enc, row, kind, first, second, meaning, term}
use Rattle.tables.proofs.Look.{row_in}
use Rattle.theory.specs.Tests.{both, pair_up, or_cases, or_left, or_right}
use Rattle.theory.specs.GoodTable.{Good, Earlier}
use Rattle.theory.specs.Numbers.{row_of, law, number, term_injective, row_is}
use Rattle.theory.specs.Within.{Loose}
use Rattle.theory.specs.Carrying.{Marked}
use Rattle.tables.specs.Tables.{byte, row_at, rows_in, Filled}
use Rattle.carry.specs.Sets.{Shows, IsLoose, IsCarriers}
use Rattle.carry.specs.Next.{part_carries, loose_next}
use Rattle.terms.proofs.Listed.{empty}
use Rattle.carry.proofs.Shown.{is_T, shows_same}
use Rattle.carry.proofs.Rows.{inside_in}

-- the term t is carried outside the set in u
abbrev pub Free : List Row → TermSet → ℕ → Term → Type 0
Free rows set t u = Loose (Marked rows (mem set)) (term rows t) u

abbrev pub FreeAt : List Row → TermSet → ℕ → ℕ → Type 0
FreeAt rows set t i = Free rows set t (term rows i)

-- Of the term i, where what is known of those before it is shown
module _ (rows : List Row) (good : Good rows) (set known : TermSet) (t i : ℕ) (t_inside : t < length rows)
    (inside : i < length rows) (shows : Shows i (FreeAt rows set t) known) where
  unmarked : T (not (mem set i)) → ¬ Marked rows (mem set) (term rows i)
  unmarked h m =
      T_not (mem set i) h (rw (term_injective rows good m.which i m.inside inside m.means) at m.holds)

  not_set : {u : Term} → term rows i ≡ u → ¬ Marked rows (mem set) u → T (not (mem set i))
  not_set e n = not_T (mem set i) (λ h. n (record { which = i; inside = inside; holds = h; means = e }))

  known_free : (j : ℕ) → T (mem known j) → FreeAt rows set t j
  known_free j h = ((shows.at j).0 ((is_T (mem known j)).1 h)).1

  free_known : {u : Term} → number rows u < i → term rows (number rows u) ≡ u → Free rows set t u
      → T (mem known (number rows u))
  free_known {u} h e l = (is_T (mem known (number rows u))).0 ((shows.at (number rows u)).1 (h, rw e l))

  by_part : (r : Row) → row rows i ≡ r → T (not (mem set i)) → T (part_carries (mem known) r) → FreeAt rows set t i
  unfolding part_carries kind first second meaning
  by_part (Pair a b) e n h =
      let l = law rows good i inside e in
      let m = rw l at (unmarked n) in
      ⊎_elim (λ k. rw l (Loose.left m (known_free a k))) (λ k. rw l (Loose.right m (known_free b k)))
      (or_cases (mem known a) (mem known b) (rw or-false at h))
  by_part (Enc a b) e n h = let l = law rows good i inside e in rw l (Loose.body (rw l at (unmarked n)) (known_free a h))
  by_part _ e n h = elim h [ ]

  next_loose : T (loose_next (mem set) (mem known) t i (row rows i)) → FreeAt rows set t i
  unfolding loose_next
  next_loose h =
      let p = part_carries (mem known) (row rows i) in
      ⊎_elim (λ e. rw (eqb→eq i t e) Loose.here)
      (λ k. let w = both (not (mem set i)) p k in by_part (row rows i) refl w.0 w.1)
      (or_cases (eqb i t) (not (mem set i) && p) h)

  row_here : {u : Term} → term rows i ≡ u → row rows i ≡ row_of (number rows) u
  row_here e = row_is rows good i inside ∙ ap (row_of (number rows)) e

  next_by : {u : Term} → term rows i ≡ u → ¬ Marked rows (mem set) u → T (part_carries (mem known) (row_of (number rows) u))
      → T (loose_next (mem set) (mem known) t i (row rows i))
  unfolding loose_next
  next_by e n h =
      let p = part_carries (mem known) (row rows i) in
      or_right (eqb i t) (not (mem set i) && p) (pair_up (not (mem set i)) p (not_set e n) (rw (row_here e) h))

  loose_next_true : {u : Term} → term rows i ≡ u → Free rows set t u → T (loose_next (mem set) (mem known) t i (row rows i))
  unfolding loose_next row_of part_carries kind first second meaning Earlier
  loose_next_true e Loose.here = rw (term_injective rows good i t inside t_inside e) (or_left (eqb t t) _ (eqb_refl t))
  loose_next_true e (Loose.left {u} {v} n l) =
      let m = law rows good i inside (row_here e) in
      let c = rw (row_here e) at (good.earlier i inside) in
      next_by e n (rw or-false (or_left (mem known (number rows u)) (mem known (number rows v)) (free_known c.0 (cc) l)))
  loose_next_true e (Loose.right {u} {v} n l) =
      let m = law rows good i inside (row_here e) in
      let c = rw (row_here e) at (good.earlier i inside) in
      next_by e n (rw or-false (or_right (mem known (number rows u)) (mem known (number rows v)) (free_known c.1 (cc) l)))
  loose_next_true e (Loose.body {u} {k} n l) =
      let m = law rows good i inside (row_here e) in
      let c = rw (row_here e) at (good.earlier i inside) in
      next_by e n (free_known c.0 (cc) l)

  -- what a visit computes is right
  pub loose_law : (loose_next (mem set) (mem known) t i (row rows i) ≡ true) ↔ FreeAt rows set t i
  loose_law =
      let b = loose_next (mem set) (mem known) t i (row rows i) in
      (λ e. next_loose ((is_T b).0 e), λ f. (is_T b).1 (loose_next_true refl f))

-- the same, of a table's bytes
pub loose_in : {table : List ℕ} (set : TermSet) {known : TermSet} {t i : ℕ} {b : Bool} → Filled table → Good (rows_in table)
    → t < byte table 600 → i < byte table 600 → Shows i (FreeAt (rows_in table) set t) known
    → b ≡ loose_next (mem set) (mem known) t i (row_at table i) → (b ≡ true) ↔ FreeAt (rows_in table) set t i
loose_in {table} set {known} {t} {i} filled good h k shows e =
    rw (e, ← row_in table i k) (loose_law (rows_in table) good set known t i (inside_in table h) (inside_in table k) shows)

-- The empty set

none_marked : {rows : List Row} {u : Term} → ¬ Marked rows (mem empty) u
none_marked m = rw (member_none m.which) at m.holds

loose_carried : {S : Term → Type 0} {t u : Term} → Loose S t u → Carries t u
loose_carried Loose.here = Carries.here
loose_carried (Loose.left n l) = Carries.left (loose_carried l)
loose_carried (Loose.right n l) = Carries.right (loose_carried l)
loose_carried (Loose.body n l) = Carries.body (loose_carried l)

carried_loose : {rows : List Row} {t u : Term} → Carries t u → Loose (Marked rows (mem empty)) t u
carried_loose Carries.here = Loose.here
carried_loose (Carries.left p) = Loose.left none_marked (carried_loose p)
carried_loose (Carries.right p) = Loose.right none_marked (carried_loose p)
carried_loose (Carries.body p) = Loose.body none_marked (carried_loose p)

pub carriers_of : {rows : List Row} {t : ℕ} {s : TermSet} → IsLoose rows empty t s → IsCarriers rows t s
carriers_of is = record { shows = shows_same (λ k h. (loose_carried, carried_loose)) is.shows }
