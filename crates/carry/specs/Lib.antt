-- What the contracts of `carry` cite.
pub mod Sets
pub mod Next
pub mod Ways
