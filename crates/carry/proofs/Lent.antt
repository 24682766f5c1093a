-- The lent numbers as a set, and carried only within it. Assumes nothing.
use mathlib.Core.Path.{◌≡◌, refl, sym, ap, ◌∙◌}
use mathlib.Core.Bool.{Bool, true, false, not, ◌||◌, true≢false}
use mathlib.Core.List.{List}
use mathlib.Core.Logic.Iff
use mathlib.Core.Logic.{◌↔◌}
use Prim.Native.Nat.{ℕ, ◌+◌, ◌<◌}
use native.Mathlib.Numerals.{add-one}
use native.Mathlib.Decide.{dec_lt}
use lib.Dec.{eqb}
use lib.ListN.{length, get_or, take}
use lib.Seq.{take-suc, take-length}
use Rattle.terms.specs.declared.TermSet.{TermSet}
use Rattle.terms.specs.Set.{mem, IsSetOf}
use Rattle.terms.proofs.Listed.{set_more}
use Rattle.model.specs.Term.{Term}
use Rattle.model.specs.Table.{Row, term}
use Rattle.model.specs.Answers.{Member}
use Rattle.tables.proofs.Look.{count_is}
use Rattle.theory.specs.Deciding.{dec_to}
use Rattle.theory.specs.GoodTable.{Good}
use Rattle.theory.specs.Numbers.{number, number_term, number_found}
use Rattle.theory.specs.Within.{Loose, within_iff_not_loose}
use Rattle.theory.specs.Carrying.{Marked}
use Rattle.tables.specs.Tables.{byte, rows_in, Filled}
use Rattle.carry.specs.Sets.{AreTerms, IsLoose, WithinLent}
use Rattle.carry.proofs.Shown.{is_T}

-- The numbers passed so far: one more, all

pub lent_next : {s r : TermSet} (l : List ℕ) (q : ℕ) → q < length l → IsSetOf (take q l) s
    → ((k : ℕ) → mem r k ≡ (mem s k || eqb k (get_or l q 0))) → IsSetOf (take (q + 1) l) r
lent_next l q h is made = rw (add-one, take-suc l q 0) (set_more (get_or l q 0) is made)

pub lent_all : {s : TermSet} {l : List ℕ} {q : ℕ} → q ≡ length l → IsSetOf (take q l) s → IsSetOf l s
lent_all {s} {l} e is = rw (e, take-length) at is

-- Whether a term is marked is decided

module _ (rows : List Row) (good : Good rows) (set : ℕ → Bool) where
  at_number : {u : Term} (m : Marked rows set u) → number rows u ≡ m.which
  at_number m = ap (number rows) (sym m.means) ∙ number_term rows good m.which m.inside

  marked_test : (u : Term) → Dec (Marked rows set u)
  marked_test u = go (dec_lt (number rows u) (length rows)) (set (number rows u)) refl
    where
      go : Dec (number rows u < length rows) → (b : Bool) → set (number rows u) ≡ b → Dec (Marked rows set u)
      go (yes h) true e = yes (record { which = number rows u; inside = h; holds = rw e tt; means = number_found rows good u h })
      go (yes h) false e = no (λ m. rw (← at_number m, e) at m.holds)
      go (no n) b e = no (λ m. n (rw (at_number m) m.inside))

-- a smaller set leaves more loose
loose_under : {S R : Term → Type 0} {t u : Term} → ((v : Term) → R v → S v) → Loose S t u → Loose R t u
loose_under f Loose.here = Loose.here
loose_under f (Loose.left n l) = Loose.left (λ m. n (f _ m)) (loose_under f l)
loose_under f (Loose.right n l) = Loose.right (λ m. n (f _ m)) (loose_under f l)
loose_under f (Loose.body n l) = Loose.body (λ m. n (f _ m)) (loose_under f l)

not_iff : (b : Bool) → (not b ≡ true) ↔ (¬ (b ≡ true))
not_iff true = (λ q. absurd (true≢false (sym q)), λ n. absurd (n refl))
not_iff false = (λ q f. true≢false (sym f), λ n. refl)

-- The terms that are lent are those that their set marks
module _ {rows : List Row} {t t' : ℕ} {S : List ℕ} {set : TermSet} (good : Good rows) (terms : AreTerms (length rows) t t' S)
    (is : IsSetOf S set) where
  marked_lent : (u : Term) → Marked rows (mem set) u → Member t t' S rows u
  marked_lent u m =
      record {
        number = m.which;
        lent = (is.at m.which).0 ((is_T (mem set m.which)).1 m.holds);
        means = m.means;
      }

  lent_marked : (u : Term) → Member t t' S rows u → Marked rows (mem set) u
  lent_marked u m =
      record {
        which = m.number;
        inside = terms.all m.number m.lent;
        holds = (is_T (mem set m.number)).0 ((is.at m.number).1 m.lent);
        means = m.means;
      }

  lent_test : (u : Term) → Dec (Member t t' S rows u)
  lent_test u = dec_to (marked_test rows good (mem set) u) (marked_lent u) (lent_marked u)

  within_law : {s : TermSet} (b : Bool) → IsLoose rows set t s → b ≡ mem s t' → (not b ≡ true) ↔ WithinLent rows t t' S
  within_law {s} b loose e =
      let only = within_iff_not_loose (Member t t' S rows) lent_test (term rows t) (term rows t') in
      Iff.trans (not_iff b) (Iff.trans (to, from) (Iff.symm only))
    where
      to : ¬ (b ≡ true) → ¬ Loose (Member t t' S rows) (term rows t) (term rows t')
      to n l = n (e ∙ (loose.shows.at t').1 (terms.second, loose_under marked_lent l))

      from : ¬ Loose (Member t t' S rows) (term rows t) (term rows t') → ¬ (b ≡ true)
      from n q = n (loose_under lent_marked ((loose.shows.at t').0 (sym e ∙ q)).1)

-- the same, of a table's bytes
pub within_in : {table : List ℕ} {t t' : ℕ} {S : List ℕ} {set s : TermSet} {b : Bool} → Filled table → Good (rows_in table)
    → AreTerms (byte table 600) t t' S → IsSetOf S set → IsLoose (rows_in table) set t s → b ≡ mem s t'
    → (not b ≡ true) ↔ WithinLent (rows_in table) t t' S
within_in {table} {t} {t'} {S} {b = b} filled good terms is loose e =
    let all : AreTerms (length (rows_in table)) t t' S = rw (count_is table) terms in
    within_law good all is b loose e
