-- `list::Found::clear` meets its contract. Assumes nothing.
use mathlib.Core.Path.{◌≡◌}
use Prim.Native.Nat.{ℕ, ◌/◌, ◌%◌}
use native.Mathlib.Decide.{dec_lt}
use native.Mathlib.Omega.{arith}
use lib.ListN.{get_or, replicate, get_or-eq_default, length-replicate}
use Rattle.std.proofs.lemmas.List.{get_or-replicate}
use Rattle.std.proofs.Common.{rules}
use Rattle.terms.specs.Set.{member}
use Rattle.terms.proofs.Bits.{bit_none}
use Rattle.list.proofs.Found.clear.Goals as goal

no_word : (n i : ℕ) → get_or {A = ℕ} (replicate n 0) i 0 ≡ 0
no_word n i =
    elim (dec_lt i n) [
      | yes l ↦ get_or-replicate n i 0 0 l
      | no m ↦ get_or-eq_default (replicate n 0) 0 {n = i} (omega (arith, length-replicate {A = ℕ} n 0, m))
    ]

pub returns : goal.returns
unfolding member
returns c k =
    let zeros = c.fill.ensures.after (λ y e. search rules) in
    rw (zeros, no_word _ (k / 64)) (bit_none (k % 64))
