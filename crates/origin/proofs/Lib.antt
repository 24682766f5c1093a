-- What stands at a node, and origins strand by strand; and laws that several functions' proofs cite.
pub mod Nodes
pub mod Originating
mod Appearing
mod Gathering
