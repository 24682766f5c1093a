-- From sets of numbers to what is derivable before a reception; and laws that several functions' proofs cite.
pub mod Transfer
mod Counting
mod Joining
mod Opening
mod Sending
