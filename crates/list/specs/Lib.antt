-- What the contracts of `list` cite.
pub mod Candidates
pub mod Found
