-- What the contracts of `stranger` cite.
pub mod Reaches
pub mod Steps
pub mod Moves
