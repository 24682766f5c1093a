-- What `all` over the numbers below a bound says, where P says what the answer at a number means. Assumes nothing.
use mathlib.Core.Path.{◌≡◌, ◌∙◌}
use mathlib.Core.Bool.{Bool, true, false}
use mathlib.Core.List.{List}
use Prim.Native.Nat.{ℕ, ◌<◌}
use native.Mathlib.Nat.{zero-add}
use native.Mathlib.Omega.{arith}
use lib.ListN.{length}
use denote.Param.Members.{Mut}
use Rattle.std.specs.Bool.{MatchBool}
use Rattle.std.specs.Fn.{Called}
use Rattle.std.specs.Iterator.{YieldsThen}
use Rattle.std.specs.List.{AllWithin, FoldsTo, HoldsAt, range_with_len}
use Rattle.std.specs.Option.{MatchOption}
use Rattle.std.specs.Prelude.{Option}
use Rattle.std.proofs.lemmas.Iterator.{YieldsList, cases_from_all}
use Rattle.std.proofs.lemmas.List.FromFn.{length-range_with_len, get_or-range_with_len}

-- the answer true says that it is true at every number, and false that it is false at some
pub data Asked (bound : ℕ) (P : ℕ → Bool → Type 0) : Bool → Type 0 where
  always : ((k : ℕ) → k < bound → P k true) → Asked bound P true
  once : {k : ℕ} → k < bound → P k false → Asked bound P false

by_cases : (bound : ℕ) (P : ℕ → Bool → Type 0) (r : Bool)
    → MatchBool r (AllWithin (λ k. P k true) (range_with_len 0 bound) 0 (length (range_with_len 0 bound)))
    ((k : ℕ) × (k < length (range_with_len 0 bound)) × HoldsAt (λ k. P k false) (range_with_len 0 bound) k)
    → Asked bound P r
by_cases bound P true w =
    always (λ k l. let inside : k < length (range_with_len 0 bound) = rw (length-range_with_len 0 bound) l in
    rw (get_or-range_with_len 0 bound k 0 l ∙ zero-add k) at (w k 0 (omega arith) inside))
by_cases bound P false (k, l, h) =
    let inside : k < bound = rw (length-range_with_len 0 bound) at l in
    once inside (rw (get_or-range_with_len 0 bound k 0 inside ∙ zero-add k) at (h 0))

pub all_asked : {S F : Type 0} {steps : S → Option ℕ → S → Type 0} {g : Mut F (ℕ × Unit {0}) Bool} {s : S} (u : S) (f : F)
    (r : Bool) (bound : ℕ) (P : ℕ → Bool → Type 0)
    → (xs : List ℕ) × (o : Option ℕ) × (j : F) × YieldsThen steps s xs o u × FoldsTo (λ p x q. Called g p (x, tt) true q) f xs j
    × MatchOption o (r ≡ true) (λ x. (r ≡ false) × ((h : F) × Called g j (x, tt) false h))
    → YieldsList steps (λ (x : ℕ). x) s (range_with_len 0 bound)
    → ((x : ℕ) (b : Bool) (q : F) → Called g f (x, tt) b q → (q ≡ f) × P x b)
    → Asked bound P r
all_asked u f r bound P ran yields says =
    by_cases bound P r
    (cases_from_all u f r (λ k. P k true) (λ k. P k false) ran yields
    (λ x q k. says x true q k) (λ x q k. (says x false q k).1))
