-- What the contracts of `accept` cite.
pub mod Held
pub mod Accepted
pub mod Skeletons
