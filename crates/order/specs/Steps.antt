-- The steps that precedence is made of, as the block at b of the table t has them, from node number to node number.
use Rattle.std.specs.Prelude.{◌≡◌, List, ℕ, ◌+◌, ◌*◌, ◌/◌, ◌%◌, ◌<◌}
use Rattle.tables.specs.Layout.{strand_count, order_count, heights, orders}
use Rattle.tables.specs.Tables.{byte, node_at}
use Rattle.order.specs.Precedence.{code}

-- strand succession: the next position of the same strand
pub record Along (t : List ℕ) (b x y : ℕ) : Type 0 where
  pub next : y ≡ x + 1
  pub strand : x / 16 < byte t (b + strand_count)
  pub below : x % 16 + 1 < byte t (b + heights + x / 16)

-- one of the first n OR pairs
pub record Listed (t : List ℕ) (b n x y : ℕ) : Type 0 where
  pub index : ℕ
  pub below : index < n
  pub starts : code (node_at t (b + orders + 4 * index)) ≡ x
  pub ends : code (node_at t (b + orders + 4 * index + 2)) ≡ y

-- one of the OR pairs
abbrev pub Among : List ℕ → ℕ → ℕ → ℕ → Type 0
Among t b = Listed t b (byte t (b + order_count))
