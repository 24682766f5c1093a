-- What the contracts of `keys` cite.
pub mod Inverted
pub mod Partners
