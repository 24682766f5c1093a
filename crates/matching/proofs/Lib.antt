-- Laws that the proofs of `matching` use.
-- From the table's bytes to rows, wishes and outcomes.
pub mod Codes
pub mod Rows
pub mod Outcomes
pub mod Sending
pub mod Nodes
-- What demands and the pass do to images, and that the pass decides map rule 3.
pub mod Demanded
pub mod Shapes
pub mod Passing
pub mod Occurrences
pub mod Decided
pub mod Taking
