-- A store changes one place, and what is apart from it stays.
use Prim.Native.Nat.{ℕ, ◌≤◌, ◌<◌}
use mathlib.Core.Path.{◌≡◌}
use mathlib.Core.Logic.{◌≢◌}
use mathlib.Core.List.{List}
use native.Mathlib.Omega.{arith}
use lib.ListN.{length, set, length-set}
use lib.Seq.{get_or-set_same, get_or-set_other}
use Rattle.tables.specs.Tables.{byte}
use Rattle.tables.specs.Stores.{Keeps}

-- t' is t with v at i
pub record Put (i v : ℕ) (t t' : List ℕ) : Type 0 where
  pub long : length t' ≡ length t
  pub here : byte t' i ≡ v
  pub apart : (j : ℕ) → j ≢ i → byte t' j ≡ byte t j

pub put_set : (t : List ℕ) (i v : ℕ) → i < length t → Put i v t (set t i v)
put_set t i v h =
    record { long = length-set t i v; here = get_or-set_same t i v 0 h; apart = λ j n. get_or-set_other t i j v 0 n }

pub keeps_within : {lo hi lo' hi' : ℕ} {t t' : List ℕ} → lo ≤ lo' → hi' ≤ hi → Keeps lo hi t t' → Keeps lo' hi' t t'
keeps_within l h k = record { same = λ j a b. k.same j (omega arith) (omega arith) }
