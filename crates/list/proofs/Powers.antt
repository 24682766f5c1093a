-- How many candidates there are at most. Assumes nothing.
use Prim.Native.Nat.{ℕ, ◌^◌, ◌≤◌}
use native.Mathlib.Nat.{pow-le-pow_left, pow-le-pow_right}
use native.Mathlib.Omega.{arith}

-- at most six strands to the sixth power
pub power_most : (base n : ℕ) → base ≤ 6 → n ≤ 6 → base ^ n ≤ 46656
power_most base n b h =
    let l : base ^ n ≤ 6 ^ n = pow-le-pow_left b n in
    let m : 6 ^ n ≤ 6 ^ 6 = pow-le-pow_right (omega arith) h in
    omega arith
