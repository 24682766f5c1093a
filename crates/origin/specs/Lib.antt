-- What the contracts of `origin` cite.
pub mod Marked
pub mod Passing
