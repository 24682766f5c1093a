-- What the contracts of `order` cite.
pub mod Precedence
pub mod Matrix
pub mod Steps
