-- Precedence as a matrix of bits. Node 16 * s + p is position p of strand s; row a has the words 2 * a and 2 * a + 1,
-- and b is bit b % 64 of the word b / 64 of its row.
use Rattle.std.specs.Prelude.{◌≡◌, Bool, true, List, ◌↔◌, ℕ, ◌+◌, ◌*◌, ◌/◌, ◌%◌, ◌<◌, get_or}
use Rattle.terms.specs.Set.{bit}
use Rattle.model.specs.Skeleton.{Node, Skeleton}
use Rattle.model.specs.Events.{Before}
use Rattle.tables.specs.Layout.{strand_count, order_count, orders}
use Rattle.tables.specs.Tables.{byte, node_at}
-- a node within the room of a block: a matrix has a row for it
pub use Rattle.tables.specs.Nodes.{Low}

-- whether b is in row a
unfoldable pub on : List ℕ → ℕ → ℕ → Bool
on m a b = bit (get_or m (2 * a + b / 64) 0) (b % 64)

abbrev pub code : Node → ℕ
code n = 16 * n.strand + n.position

-- the matrix m says what comes before what in K
pub record Shows {M : Type 0} (K : Skeleton M) (m : List ℕ) : Type 0 where
  pub at : (x y : Node) → Low x → Low y → (on m (code x) (code y) ≡ true) ↔ Before K x y

-- the OR records of the block at b name nodes that a matrix has rows for, the first of each pair on one of the strands
pub record Ordered (t : List ℕ) (b : ℕ) : Type 0 where
  pub inside : (i : ℕ) → i < byte t (b + order_count) → (node_at t (b + orders + 4 * i)).strand < byte t (b + strand_count)
  pub first : (i : ℕ) → i < byte t (b + order_count) → Low (node_at t (b + orders + 4 * i))
  pub second : (i : ℕ) → i < byte t (b + order_count) → Low (node_at t (b + orders + 4 * i + 2))
