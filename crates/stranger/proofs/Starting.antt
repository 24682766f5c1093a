-- The start set, from what passes, and what passes by a term's kind.
use mathlib.Core.Path.{◌≡◌, refl}
use mathlib.Core.Bool.{Bool, ◌||◌, ◌&&◌, not}
use mathlib.Core.List.{List}
use Prim.Native.Nat.{ℕ, ◌<◌}
use native.Mathlib.Omega.{arith}
use native.Mathlib.Decide.{dec_lt}
use lib.Dec.{eqb, leb, ltb}
use borrow.Author.Tests.{lt-ltb, le-ltb}
use Rattle.terms.specs.declared.TermSet.{TermSet}
use Rattle.terms.specs.Set.{mem, HasThose}
use Rattle.tables.specs.declared.kinds.Kind.{Kind}
use Rattle.tables.specs.Kinds.{code}
use Rattle.stranger.specs.Moves.{free, starts, Starts}

pub starts_those : (t : List ℕ) (sent withheld : TermSet) {n : ℕ} {Answers : ℕ → Bool → Type 0} {s : TermSet}
    → ((k : ℕ) → k < n → (b : Bool) → Answers k b → b ≡ starts t sent withheld k)
    → HasThose n Answers s
    → Starts t sent withheld n s.words
starts_those t sent withheld {n} {Answers} {s} test those = record { at = λ k. go k (dec_lt k n) }
  where
    go : (k : ℕ) → Dec (k < n) → mem s k ≡ (ltb k n && starts t sent withheld k)
    go k (yes l) = rw (lt-ltb k n l) (test k l (mem s k) (those.at k l))
    go k (no f) = rw (le-ltb k n (omega arith)) (those.past k (omega arith))

-- tags and message variables are free, and atoms that are not withheld
pub free_by : (k : Kind) (w : Bool)
    → ((eqb (code k) 0 || eqb (code k) 1) || (leb 2 (code k) && leb (code k) 9) && not w) ≡ free (code k) w
free_by Kind.Tag w = refl
free_by Kind.Mesg w = refl
free_by Kind.Text w = refl
free_by Kind.Data w = refl
free_by Kind.Name w = refl
free_by Kind.Skey w = refl
free_by Kind.Akey w = refl
free_by Kind.Public w = refl
free_by Kind.Inverse w = refl
free_by Kind.LongTerm w = refl
free_by Kind.Pair w = refl
free_by Kind.Encryption w = refl
free_by Kind.Hash w = refl
