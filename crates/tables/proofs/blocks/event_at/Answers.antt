-- `tables::blocks::event_at` meets its contract: nothing beyond the strands or a height, else the event of the bytes.
-- Assumes nothing.
use native.Mathlib.Omega.{arith}
use Rattle.model.specs.Says.{node_of}
use Rattle.tables.specs.Nodes.{There, nothing, sends, receives}
use Rattle.tables.proofs.Nodes.{no_strand, no_node, a_send, a_reception, at_stands, sent_at, received_at, there_low}
use Rattle.tables.proofs.blocks.event_at.Goals as goal

pub returns-then-strands_in-node-clause-said : goal.returns-then-strands_in-node-clause-said
unfolding node_of
returns-then-strands_in-node-clause-said c = no_strand _ _ (node_of c.args.node) (omega arith)

pub returns-then-strands_in-node-clause-is : goal.returns-then-strands_in-node-clause-is
unfolding node_of
returns-then-strands_in-node-clause-is c = nothing (λ e a. omega (arith, (at_stands _ _ a).there.strand))

pub height_at-requires : goal.height_at-requires
height_at-requires c = omega (arith, c.requires.1.strands)

pub returns-then-height_at-node-clause-said : goal.returns-then-height_at-node-clause-said
unfolding node_of
returns-then-height_at-node-clause-said c = no_node _ _ (node_of c.args.node) (omega arith) (omega (arith, c.height_at.ensures))

pub returns-then-height_at-node-clause-is : goal.returns-then-height_at-node-clause-is
unfolding node_of
returns-then-height_at-node-clause-is c =
    nothing (λ e a. let h = (at_stands _ _ a).there.position in omega (arith, h, c.height_at.ensures))

pub message_at-message-requires : goal.message_at-message-requires
unfolding node_of
message_at-message-requires c =
    let there : There c.args.table.now c.args.block (node_of c.args.node) =
    record { strand = omega arith; position = omega (arith, c.height_at.ensures) } in
    (c.requires.0, c.requires.2, there_low c.requires.1 there)

pub is_send_at-requires : goal.is_send_at-requires
unfolding node_of
is_send_at-requires c =
    let there : There c.args.table.now c.args.block (node_of c.args.node) =
    record { strand = omega arith; position = omega (arith, c.height_at.ensures) } in
    (c.requires.0, c.requires.2, there_low c.requires.1 there)

pub returns-then-is_send_at-clause-said : goal.returns-then-is_send_at-clause-said
unfolding node_of
returns-then-is_send_at-clause-said c =
    let there : There c.args.table.now c.args.block (node_of c.args.node) =
    record { strand = omega arith; position = omega (arith, c.height_at.ensures) } in
    a_send _ _ (node_of c.args.node) there (cc) c.message_at-message.ensures

pub returns-then-is_send_at-clause-is : goal.returns-then-is_send_at-clause-is
unfolding node_of
returns-then-is_send_at-clause-is c =
    let there : There c.args.table.now c.args.block (node_of c.args.node) =
    record { strand = omega arith; position = omega (arith, c.height_at.ensures) } in
    sends (sent_at _ _ there (cc) c.message_at-message.ensures)

pub returns-clause-said : goal.returns-clause-said
unfolding node_of
returns-clause-said c =
    let there : There c.args.table.now c.args.block (node_of c.args.node) =
    record { strand = omega arith; position = omega (arith, c.height_at.ensures) } in
    a_reception _ _ (node_of c.args.node) there (cc) c.message_at-message.ensures

pub returns-clause-is : goal.returns-clause-is
unfolding node_of
returns-clause-is c =
    let there : There c.args.table.now c.args.block (node_of c.args.node) =
    record { strand = omega arith; position = omega (arith, c.height_at.ensures) } in
    receives (received_at _ _ there (cc) c.message_at-message.ensures)
