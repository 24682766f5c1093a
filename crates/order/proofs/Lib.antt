-- Laws that several functions' proofs cite, and what a matrix of precedence says of a skeleton.
mod Rows
mod Closing
mod Adding
mod Backwards
pub mod Ranges
pub mod Drawn
