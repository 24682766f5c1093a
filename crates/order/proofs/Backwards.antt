-- What `find` says of the numbers below n from the last down. Assumes nothing.
use mathlib.Core.Path.{◌≡◌, refl, sym, ap, subst, ◌∙◌}
use mathlib.Core.List.{List, [], ◌∷◌}
use Prim.Native.Nat.{ℕ, zero, suc, ◌+◌, ◌-◌, ◌≤◌, ◌<◌}
use native.Mathlib.Omega.{arith}
use lib.ListN.{length, get_or}
use Rattle.std.specs.declared.option.Option.{Option}
use Rattle.std.specs.declared.option.Option.TheVariants.{None, Some}
use Rattle.std.specs.declared.ops.Range.{Range}
use Rattle.std.specs.declared.iter.Rev.{Rev}
use Rattle.std.specs.Option.{MatchOption}
use Rattle.std.specs.List.{AllWithin, HoldsAt}
use Rattle.std.specs.Iterator.Adapters.{rev_source, rev_steps}
use Rattle.std.proofs.lemmas.Iterator.{YieldsList}
use Rattle.std.proofs.lemmas.Iterator.Consumers.{YieldsList-from_shown}

-- the n numbers from a on, the last of them first
pub down : ℕ → ℕ → List ℕ
down a zero = []
down a (suc n) = (a + n) ∷ down a n

length_down : (a n : ℕ) → length (down a n) ≡ n
unfolding down
length_down a zero = refl
length_down a (suc n) = ap suc (length_down a n)

at_down : (a n i d : ℕ) → i < n → get_or (down a n) i d + i + 1 ≡ a + n
unfolding down
at_down a zero i d h = absurd (omega arith)
at_down a (suc n) zero d h = omega arith
at_down a (suc n) (suc i) d h = omega (arith, at_down a n i d (omega arith))

stepped : (a n b m x : ℕ) → n ≡ suc m → x ≡ a + m → b ≡ a → down a n ≡ x ∷ down b m
unfolding down
stepped a n b m x e f g =
    ap (down a) e ∙ ap {B = List ℕ} (λ w. w ∷ down a m) (sym f) ∙ ap {B = List ℕ} (λ w. x ∷ down w m) (sym g)

abbrev pub steps : Range ℕ → Option ℕ → Range ℕ → Type 0
steps s r t =
    (t.start ≡ s.start) × MatchOption r ((s.end - s.start ≡ 0) × (t.end ≡ s.end))
    (λ x. (0 < s.end - s.start) × (x ≡ t.end) × (s.end ≡ t.end + 1))

abbrev shown : Rev (Range ℕ) → List ℕ
shown s = down (rev_source s).start ((rev_source s).end - (rev_source s).start)

pub yields_down : {s : Rev (Range ℕ)} (n : ℕ) → rev_source s ≡ record { start = 0; end = n }
    → YieldsList (rev_steps steps) (λ x. x) s (down 0 n)
yields_down {s} n e =
    subst (YieldsList (rev_steps steps) (λ x. x) s) (ap (λ (r : Range ℕ). down r.start (r.end - r.start)) e ∙ ap (down 0) (omega arith))
    (YieldsList-from_shown (rev_steps steps) (λ x. x) shown
    (λ s t p. omega (arith, length_down (rev_source s).start ((rev_source s).end - (rev_source s).start), p.1.0))
    (λ s x t p. stepped _ _ _ _ x (omega (arith, p.0, p.1.0, p.1.2)) (omega (arith, p.0, p.1.0, p.1.1, p.1.2)) p.0)
    s)

-- the number after the one that is found, or 0
abbrev pub after : Option ℕ → ℕ
after None = 0
after (Some x) = x + 1

-- the first that is found is the highest
pub highest : (Yes No : ℕ → Type 0) (n : ℕ) (r : Option ℕ)
    → MatchOption r (AllWithin No (down 0 n) 0 (length (down 0 n)))
    (λ x. Yes x × (i : ℕ) × (i < length (down 0 n)) × HoldsAt (λ y. y ≡ x) (down 0 n) i × AllWithin No (down 0 n) 0 i)
    → (after r ≤ n) × ((k : ℕ) → after r ≤ k → k < n → No k)
highest Yes No n r found = go r found
  where
    place : (i : ℕ) → AllWithin No (down 0 n) 0 i → (k : ℕ) → n ≤ k + i → k < n → No k
    place i h k a b =
        subst No {x = get_or (down 0 n) (n - 1 - k) 0} {y = k} (omega (arith, at_down 0 n (n - 1 - k) 0 (omega arith)))
        (h (n - 1 - k) 0 (omega arith) (omega arith))

    go : (o : Option ℕ) → MatchOption o (AllWithin No (down 0 n) 0 (length (down 0 n)))
        (λ x. Yes x × (i : ℕ) × (i < length (down 0 n)) × HoldsAt (λ y. y ≡ x) (down 0 n) i × AllWithin No (down 0 n) 0 i)
        → (after o ≤ n) × ((k : ℕ) → after o ≤ k → k < n → No k)
    go None h = (omega arith, λ k a b. place _ h k (omega (arith, length_down 0 n)) b)
    go (Some x) h =
        let i : h.1 < n = omega (arith, length_down 0 n, h.2) in
        let at : x + h.1 + 1 ≡ n = omega (arith, h.3 0, at_down 0 n h.1 0 i) in
        (omega (arith, at), λ k a b. place h.1 h.4 k (omega (arith, at)) b)
