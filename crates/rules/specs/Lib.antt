-- What the contracts of `rules` cite.
pub mod Judged
