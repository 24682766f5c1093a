-- What the sets and matrices say of a skeleton's rules, and laws that several functions' proofs cite.
pub mod Transfer
mod NonRules
mod Asked
mod Arriving
mod UniqRules
mod Faults
