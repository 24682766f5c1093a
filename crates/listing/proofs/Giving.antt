-- The list is given, or there is no room for it. Assumes nothing.
use mathlib.Core.Path.{◌≡◌}
use mathlib.Core.List.{List}
use Prim.Native.Nat.{ℕ, ◌*◌, ◌≤◌, ◌<◌}
use native.Mathlib.Nat.{mul-le-mul_right}
use native.Mathlib.Omega.{arith}
use lib.ListN.{length}
use Rattle.model.specs.Answers.{Answer, answered, refused, refusal, over, end_to_end}
use Rattle.listing.specs.Found.{GivenAs}

-- the bytes of the candidates are few
pub few_bytes : (count total n : ℕ) → count ≤ total → total ≤ 46656 → n ≤ 6 → count * n ≤ 279936
few_bytes count total n c t h =
    let a : count * n ≤ 46656 * n = mul-le-mul_right n (omega arith) in
    omega arith

module _ {maps : List (List ℕ)} {n : ℕ} {lent : List ℕ} {count : ℕ} (counted : count ≡ length maps) where
  pub no_room : {says : Answer ℕ} → length lent < count * n → says ≡ refused (refusal 16) → GivenAs maps n lent says lent
  no_room few e = rw e (GivenAs.short (rw counted at few))

  pub all_given : {after : List ℕ} → count * n ≤ length lent → after ≡ over (end_to_end maps) lent
      → GivenAs maps n lent (answered count) after
  all_given fits e = rw (e, counted) (GivenAs.all (rw counted at fits))
