-- What `T`, and being true, say of `&&`, `||` and `not`. The Bools are explicit, since `T` does not show them.
use Rattle.std.specs.Prelude.{◌≡◌, refl, Bool, true, false, not, ◌&&◌, ◌||◌, ◌↔◌, ◌⊎◌, T}
use Rattle.std.proofs.Common.{sym, ◌∙◌, true≢false, inl, inr}

pub both : (a b : Bool) → T (a && b) → T a × T b
both true b h = (tt, h)
both false b h = elim h [ ]

pub pair_up : (a b : Bool) → T a → T b → T (a && b)
pair_up true b h k = k
pair_up false b h k = elim h [ ]

pub implied : (a b : Bool) → T (not a || b) → T a → T b
implied true b h k = h
implied false b h k = elim k [ ]

pub implies : (a b : Bool) → (T a → T b) → T (not a || b)
implies true b f = f tt
implies false b f = tt

pub or_cases : (a b : Bool) → T (a || b) → T a ⊎ T b
or_cases true b h = inl tt
or_cases false b h = inr h

pub or_left : (a b : Bool) → T a → T (a || b)
or_left true b h = tt
or_left false b h = elim h [ ]

pub or_right : (a b : Bool) → T b → T (a || b)
or_right true b h = tt
or_right false b h = h

pub not_not_iff : (b : Bool) → T (not (not b)) ↔ T b
not_not_iff true = (λ h. h, λ h. h)
not_not_iff false = (λ h. h, λ h. h)

pub both_true : (a b : Bool) → (a && b) ≡ true → (a ≡ true) × (b ≡ true)
both_true true b e = (refl, e)
both_true false b e = absurd (true≢false (sym e))

pub bool_false : (b : Bool) → ¬ (b ≡ true) → b ≡ false
bool_false true n = absurd (n refl)
bool_false false n = refl

-- a test that said no
pub was_no : {b : Bool} {P : Type 0} → (b ≡ true) ↔ P → b ≡ false → ¬ P
was_no test e h = true≢false (sym (test.1 h) ∙ e)
