-- What stands at a node, by the bytes of the block at b of the table t.
use Rattle.std.specs.Prelude.{◌≡◌, List, ℕ, ◌+◌, ◌*◌, ◌<◌, Option, Some, None}
use Rattle.terms.specs.declared.Term.{Term}
use Rattle.model.specs.Skeleton.{Event, send, recv, Node, Skeleton, At}
use Rattle.model.specs.Reading.{event}
use Rattle.tables.specs.Layout.{strand_count, heights, directions, messages}
use Rattle.tables.specs.Tables.{byte}
use Rattle.tables.specs.declared.blocks.Event as Answer

abbrev pub direction_at : List ℕ → ℕ → Node → ℕ
direction_at t b n = byte t (b + directions + 16 * n.strand + n.position)

abbrev pub message_at : List ℕ → ℕ → Node → ℕ
message_at t b n = byte t (b + messages + 16 * n.strand + n.position)

-- an event stands at the node
pub record There (t : List ℕ) (b : ℕ) (n : Node) : Type 0 where
  pub strand : n.strand < byte t (b + strand_count)
  pub position : n.position < byte t (b + heights + n.strand)

-- the event e stands at the node
pub record Stands (t : List ℕ) (b : ℕ) (n : Node) (e : Event ℕ) : Type 0 where
  pub there : There t b n
  pub is : event (direction_at t b n) (message_at t b n) ≡ e

-- within the room of a block
pub record Low (n : Node) : Type 0 where
  pub strand : n.strand < 6
  pub position : n.position < 16

-- the answer says what stands at the node
pub data EventIs (K : Skeleton ℕ) (n : Node) : Option Answer.Event → Type 0 where
  nothing : ((e : Event ℕ) → ¬ At K n e) → EventIs K n None
  sends : {t : Term} → At K n (send t.0) → EventIs K n (Some (Answer.Event.Send t))
  receives : {t : Term} → At K n (recv t.0) → EventIs K n (Some (Answer.Event.Reception t))
