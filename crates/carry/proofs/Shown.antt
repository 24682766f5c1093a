-- Laws of `Shows`: of no number at first, of one more, and of a property in other words. Assumes nothing.
use mathlib.Core.Path.{◌≡◌, refl, sym, ◌∙◌}
use mathlib.Core.Bool.{Bool, true, false, ◌||◌, ◌&&◌, or-false, and-true, and-false, true≢false}
use mathlib.Core.Logic.{◌↔◌}
use Prim.Native.Nat.{ℕ, ◌+◌, ◌<◌}
use native.Mathlib.Omega.{arith}
use native.Mathlib.Decide.{ℕ_discrete, dec_lt}
use lib.Dec.{T, eqb}
use borrow.Author.Tests.{eq-eqb, ne_eqb}
use Rattle.terms.specs.declared.TermSet.{TermSet}
use Rattle.terms.specs.Set.{mem, HasThose}
use Rattle.terms.proofs.Words.{member_none}
use Rattle.terms.proofs.Listed.{empty}
use Rattle.theory.specs.Tests.{bool_false}
use Rattle.carry.specs.Sets.{Shows}

pub is_T : (b : Bool) → (b ≡ true) ↔ T b
is_T true = (λ e. tt, λ h. refl)
is_T false = (λ e. absurd (true≢false (sym e)), λ h. absurd h)

pub shows_none : (P : ℕ → Type 0) → Shows 0 P empty
shows_none P = record { at = λ k. (λ e. absurd (true≢false (sym e ∙ member_none k)), λ h. absurd (omega arith)) }

module _ {P : ℕ → Type 0} {i : ℕ} {s : TermSet} (shows : Shows i P s) where
  not_yet : mem s i ≡ false
  not_yet = bool_false (mem s i) (λ e. omega (arith, ((shows.at i).0 e).0))

  pub shows_more : {r : TermSet} (b : Bool) → ((b ≡ true) ↔ P i) → ((k : ℕ) → mem r k ≡ (mem s k || (b && eqb k i)))
      → Shows (i + 1) P r
  shows_more {r} b h made = record { at = λ k. go k (ℕ_discrete k i) }
    where
      go : (k : ℕ) → Dec (k ≡ i) → (mem r k ≡ true) ↔ ((k < i + 1) × P k)
      go k (yes e) =
          let m : mem r i ≡ b = made i ∙ rw (not_yet, eq-eqb i i refl) (and-true b) in
          rw (e, m) (λ q. (omega arith, h.0 q), λ w. h.1 w.1)
      go k (no n) =
          let m : mem r k ≡ mem s k = made k ∙ rw (ne_eqb k i n, and-false b) (or-false (mem s k)) in
          rw m (λ q. let w = (shows.at k).0 q in (omega (arith, w.0), w.1), λ w. (shows.at k).1 (omega (arith, w.0), w.1))

-- what passes a test that decides P
pub shows_those : {n : ℕ} {Answers : ℕ → Bool → Type 0} {P : ℕ → Type 0} {s : TermSet}
    → ((k : ℕ) → k < n → (b : Bool) → Answers k b → (b ≡ true) ↔ P k) → HasThose n Answers s → Shows n P s
shows_those {n} {Answers} {P} {s} decides those =
    record { at = λ k. (λ e. inside k e (dec_lt k n), λ w. (decides k w.0 (mem s k) (those.at k w.0)).1 w.1) }
  where
    inside : (k : ℕ) → mem s k ≡ true → Dec (k < n) → (k < n) × P k
    inside k e (yes l) = (l, (decides k l (mem s k) (those.at k l)).0 e)
    inside k e (no f) = absurd (true≢false (sym e ∙ those.past k (omega arith)))

pub shows_same : {n : ℕ} {P Q : ℕ → Type 0} {s : TermSet} → ((k : ℕ) → k < n → P k ↔ Q k) → Shows n P s → Shows n Q s
shows_same f shows =
    record {
      at = λ k. (
        λ e. let w = (shows.at k).0 e in (w.0, (f k w.0).0 w.1),
        λ w. (shows.at k).1 (w.0, (f k w.0).1 w.1),
      );
    }
