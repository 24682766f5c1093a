-- What the contracts of `maps` cite.
pub mod Rules
pub mod Strands
pub mod Images
pub mod Atoms
