-- What rules that are followed do to a set. A set is given by its words.
use Rattle.std.specs.Prelude.{◌≡◌, true, ℕ, ◌≤◌, ◌<◌}
use mathlib.Core.List.{List, Memᴰ}
use Rattle.terms.specs.declared.Term.{Term}
use Rattle.terms.specs.Set.{member}
use Rattle.theory.specs.Rules.{Rule, Reached}

-- a term's number
abbrev pub number : Term → ℕ
number t = t.0

abbrev pub Has : List ℕ → ℕ → Type 0
Has s k = member s k ≡ true

-- the set has all that the rule needs
abbrev pub Ready : List ℕ → Rule → Type 0
Ready s q = (i : ℕ) → Memᴰ i q.needs → Has s i

-- r has all of s, and nothing but what is reached by any rules that reach s and have P's
pub record Grown (P : Rule → Type 0) (s r : List ℕ) : Type 0 where
  pub grows : (k : ℕ) → Has s k → Has r k
  pub only : (all : List Rule) → ((q : Rule) → P q → Memᴰ q all) → ((k : ℕ) → Has s k → Reached all k)
      → (k : ℕ) → Has r k → Reached all k

-- and r has what each rule of P gives from s
pub record Step (P : Rule → Type 0) (s r : List ℕ) : Type 0 where
  pub grown : Grown P s r
  pub closes : (q : Rule) → P q → Ready s q → Has r q.gives

-- and r has what each rule of P gives from r
pub record Closure (P : Rule → Type 0) (s r : List ℕ) : Type 0 where
  pub grown : Grown P s r
  pub closed : (q : Rule) → P q → Ready r q → Has r q.gives

-- the rules of a list
pub record Listed (l : List Rule) (q : Rule) : Type 0 where
  pub in_list : Memᴰ q l

-- the rules that f gives for the numbers from one up to another
pub record Between (f : ℕ → List Rule) (low high : ℕ) (q : Rule) : Type 0 where
  pub of : ℕ
  pub from : low ≤ of
  pub to : of < high
  pub in_list : Memᴰ q (f of)
