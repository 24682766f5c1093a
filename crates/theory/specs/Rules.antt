-- Rules over numbers, the least set that they close, and a computation that decides it.
use Rattle.std.specs.Prelude.{Bool, not, ◌&&◌, ◌||◌, cond, get_or, set, replicate}
use Rattle.std.proofs.Math.Bool.{true, false}
use mathlib.Core.List.{List, [], ◌∷◌, Memᴰ}
use Prim.Native.Nat.{ℕ, zero, suc, ◌<◌}

-- from the needs, what it gives
pub record Rule : Type 0 where
  pub needs : List ℕ
  pub gives : ℕ

abbrev pub ◌⊢◌ : List ℕ → ℕ → Rule
◌⊢◌ is c = record { needs = is; gives = c }

pub data Reached (rules : List Rule) : ℕ → Type 0 where
  by : {r : Rule} → Memᴰ r rules → ((i : ℕ) → Memᴰ i r.needs → Reached rules i) → Reached rules r.gives

-- The computation: a mark for each number, and passes over the rules

abbrev pub marked : List Bool → ℕ → Bool
marked s i = get_or s i false

unfoldable pub ready : List Bool → List ℕ → Bool
ready s [] = true
ready s (i ∷ is) = marked s i && ready s is

unfoldable pub fire : List Bool → Rule → List Bool
fire s r = cond (ready s r.needs) (set s r.gives true) s

unfoldable pub pass : List Rule → List Bool → List Bool
pass [] s = s
pass (r ∷ rs) s = pass rs (fire s r)

unfoldable pub passes : List Rule → ℕ → List Bool → List Bool
passes rules zero s = s
passes rules (suc k) s = passes rules k (pass rules s)

unfoldable pub reach : List Rule → ℕ → List Bool
unfolding passes pass fire ready
reach rules n = passes rules n (replicate n false)

-- Whether a set of marks is settled: no rule would mark one more

unfoldable pub kept : List Bool → Rule → Bool
kept s r = not (ready s r.needs) || marked s r.gives

unfoldable pub settled : List Bool → List Rule → Bool
settled s [] = true
settled s (r ∷ rs) = kept s r && settled s rs

-- all conclusions lie below n
unfoldable pub InRange : ℕ → List Rule → Type 0
InRange n rules = (r : Rule) → Memᴰ r rules → r.gives < n

-- Marks made by the rules, one at a time, in whatever order

pub data Made (rules : List Rule) (n : ℕ) : List Bool → Type 0 where
  none_yet : Made rules n (replicate n false)
  one_more : {s : List Bool} {r : Rule} → Made rules n s → Memᴰ r rules → Made rules n (fire s r)
