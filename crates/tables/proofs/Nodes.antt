-- The strands, the events and the OR pairs of the skeleton whose block begins at b of the table t, by its bytes.
use Prim.Native.Nat.{ℕ, zero, suc, ◌+◌, ◌*◌, ◌≤◌, ◌<◌}
use native.Mathlib.Omega.{arith}
use native.Mathlib.Decide.{dec_lt}
use mathlib.Core.Logic.{◌≢◌}
use mathlib.Core.Bool.{true, false}
use mathlib.Core.Path.{◌≡◌, refl, sym, ap, ◌∙◌}
use mathlib.Core.List.{List, [], Memᴰ}
use mathlib.Core.Option.{Option, none, some}
use lib.Dec.{eqb}
use lib.ListN.{length, length-map}
use borrow.Author.Tests.{eqb-true, eqb-false}
use Rattle.model.specs.Term.{Term}
use Rattle.model.specs.Skeleton.{Event, send, recv, message, Node, trace, height, At, means}
use Rattle.model.specs.Reading as Reading
use Rattle.model.specs.Reading.{event}
use Rattle.theory.specs.Places.{not_there}
use Rattle.theory.specs.Upto.{OneOf, length-upto, upto_at, upto_out, upto_there, upto_none, upto_below, upto_is, upto_has, upto_only}
use Rattle.tables.specs.Layout.{strand_count, order_count, heights, orders}
use Rattle.tables.specs.Tables.{byte, node_at, trace_at, strands_at, orders_at, skeleton_at, Block}
use Rattle.tables.specs.Nodes.{direction_at, message_at, There, Stands, Low}
use Rattle.tables.proofs.Look.{length_strands}

other : (d m : ℕ) → d ≢ 0 → event d m ≡ recv m
unfolding event
other zero m ne = absurd (ne refl)
other (suc d) m ne = refl

said : (d m : ℕ) → message (event d m) ≡ m
unfolding event message
said zero m = refl
said (suc d) m = refl

module _ (t : List ℕ) (b : ℕ) where
  -- Strands

  pub strands_meant : (f : ℕ → Term) → length (means f (skeleton_at t b)).strands ≡ byte t (b + strand_count)
  unfolding means
  strands_meant f = length-map (skeleton_at t b).strands _ ∙ length_strands t b

  trace_in : (s : ℕ) → s < byte t (b + strand_count) → trace (skeleton_at t b) s ≡ trace_at t b s
  unfolding skeleton_at strands_at
  trace_in s l = upto_at (byte t (b + strand_count)) (trace_at t b) [] s l

  trace_out : (s : ℕ) → byte t (b + strand_count) ≤ s → trace (skeleton_at t b) s ≡ []
  unfolding skeleton_at strands_at
  trace_out s l = upto_out (byte t (b + strand_count)) (trace_at t b) [] s l

  pub height_at : (s : ℕ) → s < byte t (b + strand_count) → height (skeleton_at t b) s ≡ byte t (b + heights + s)
  unfolding trace_at
  height_at s l = ap length (trace_in s l) ∙ length-upto (byte t (b + heights + s)) _

  pub height_out : (s : ℕ) → byte t (b + strand_count) ≤ s → height (skeleton_at t b) s ≡ 0
  height_out s l = ap length (trace_out s l)

  -- Events

  pub stands_at : {n : Node} {e : Event ℕ} → Stands t b n e → At (skeleton_at t b) n e
  unfolding trace_at
  stands_at {n} s =
      let h = s.there in
      record { is = rw (trace_in n.strand h.strand) (upto_there _ _ n.position h.position ∙ ap some s.is) }

  pub at_stands : {n : Node} {e : Event ℕ} → At (skeleton_at t b) n e → Stands t b n e
  unfolding trace_at
  at_stands {n} a =
      elim (dec_lt n.strand (byte t (b + strand_count))) [
        | yes l ↦ let h = rw (trace_in n.strand l) at a.is in
            record { there = record { strand = l; position = upto_below _ _ n.position h }; is = upto_is _ _ n.position h }
        | no l ↦ absurd (not_there (rw (trace_out n.strand (omega arith)) at a.is))
      ]

  pub sent_at : {n : Node} {m : ℕ} → There t b n → eqb (direction_at t b n) 0 ≡ true → m ≡ message_at t b n
      → At (skeleton_at t b) n (send m)
  unfolding event
  sent_at {n} h d m = stands_at (record { there = h; is = rw (eqb-true (direction_at t b n) 0 d, m) })

  pub received_at : {n : Node} {m : ℕ} → There t b n → eqb (direction_at t b n) 0 ≡ false → m ≡ message_at t b n
      → At (skeleton_at t b) n (recv m)
  received_at {n} h d m =
      stands_at (record { there = h; is = rw m (other (direction_at t b n) (message_at t b n) (eqb-false _ 0 d)) })

  pub said_at : {n : Node} {e : Event ℕ} → At (skeleton_at t b) n e → message e ≡ message_at t b n
  said_at {n} a = let s = at_stands a in rw (← s.is) (said (direction_at t b n) (message_at t b n))

  -- What is found at a node

  module _ (n : Node) where
    abbrev found : Option (Event ℕ)
    found = Reading.event_at (skeleton_at t b) n

    pub no_strand : byte t (b + strand_count) ≤ n.strand → none ≡ found
    unfolding Reading.event_at
    no_strand h = rw (trace_out n.strand h)

    pub no_node : n.strand < byte t (b + strand_count) → byte t (b + heights + n.strand) ≤ n.position → none ≡ found
    unfolding Reading.event_at trace_at
    no_node l h = rw (trace_in n.strand l) (sym (upto_none (byte t (b + heights + n.strand)) _ n.position h))

    pub a_send : {m : ℕ} → There t b n → eqb (direction_at t b n) 0 ≡ true → m ≡ message_at t b n → some (send m) ≡ found
    unfolding Reading.event_at
    a_send h d m = sym (sent_at {n = n} h d m).is

    pub a_reception : {m : ℕ} → There t b n → eqb (direction_at t b n) 0 ≡ false → m ≡ message_at t b n → some (recv m) ≡ found
    unfolding Reading.event_at
    a_reception h d m = sym (received_at {n = n} h d m).is

  -- OR pairs

  abbrev pub pair_at : ℕ → Node × Node
  pair_at i = (node_at t (b + orders + 4 * i), node_at t (b + orders + 4 * i + 2))

  pub pair_in : (i : ℕ) → i < byte t (b + order_count) → Memᴰ (pair_at i) (skeleton_at t b).order
  unfolding skeleton_at orders_at
  pair_in i l = upto_has (byte t (b + order_count)) pair_at i l

  pub pair_of : {x y : Node} → Memᴰ (x, y) (skeleton_at t b).order → OneOf (byte t (b + order_count)) pair_at (x, y)
  unfolding skeleton_at orders_at
  pair_of q = upto_only (byte t (b + order_count)) pair_at q

-- How far strands and positions go
module _ {t : List ℕ} {b : ℕ} (block : Block t b) where
  pub there_low : {n : Node} → There t b n → Low n
  there_low {n} h =
      record {
        strand = omega (arith, h.strand, block.strands);
        position = omega (arith, h.position, block.low n.strand h.strand);
      }

  pub strand_low : {n : Node} {e : Event ℕ} → At (skeleton_at t b) n e → n.strand < 6
  strand_low a = omega (arith, (at_stands t b a).there.strand, block.strands)

  pub position_low : {n : Node} {e : Event ℕ} → At (skeleton_at t b) n e → n.position < 16
  position_low {n} a =
      let h = (at_stands t b a).there in
      omega (arith, h.position, block.low n.strand h.strand)
