-- What the contracts of `terms` cite.
pub mod Set
