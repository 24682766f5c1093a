-- `terms::TermSet::such_that` meets its contract: one term after another is put in, if it passes.
use mathlib.Core.Path.{◌≡◌, ◌∙◌, refl}
use mathlib.Core.Bool.{Bool, false, and-true, and-false, or-false}
use Prim.Native.Nat.{ℕ, ◌+◌, ◌<◌}
use native.Mathlib.Decide.{ℕ_discrete}
use native.Mathlib.Omega.{arith}
use borrow.Author.Tests.{eq-eqb, ne_eqb}
use Rattle.terms.specs.declared.TermSet.{TermSet}
use Rattle.terms.specs.Set.{mem, Added, HasThose}
use Rattle.terms.proofs.Words.{member_none}
use Rattle.terms.proofs.Listed.{empty}
use Rattle.terms.proofs.TermSet.such_that.Goals as goal

module _ {n : ℕ} {b : Bool} {s r : TermSet} (more : Added n b s.words r.words) where
  others_stay : (k : ℕ) → ¬ (k ≡ n) → mem r k ≡ mem s k
  others_stay k d = rw (more.at k, ne_eqb k n d, and-false, or-false) refl

  now_in : mem s n ≡ false → mem r n ≡ b
  now_in e = rw (more.at n, e, eq-eqb n n refl, and-true) refl

  one_more : {Answers : ℕ → Bool → Type 0} → HasThose n Answers s → Answers n b → HasThose (n + 1) Answers r
  one_more {Answers} had now = record { at = λ k l. go k l (ℕ_discrete k n); past = λ k h. others_stay k (λ e. absurd (omega arith)) ∙ had.past k (omega arith) }
    where
      go : (k : ℕ) → k < n + 1 → Dec (k ≡ n) → Answers k (mem r k)
      go k l (yes e) = rw (e, now_in (had.past n (omega arith))) now
      go k l (no d) = rw (others_stay k d) (had.at k (omega arith))

none_yet : (Answers : ℕ → Bool → Type 0) → HasThose 0 Answers empty
none_yet Answers = record { at = λ k l. absurd (omega arith); past = λ k h. member_none k }

pub loop-i-init : goal.loop-i-init
loop-i-init g c = none_yet _

pub loop-i-preserved : goal.loop-i-preserved
loop-i-preserved g c = one_more c.insert_if.ensures c.loop-i.invariant c.test.ensures
