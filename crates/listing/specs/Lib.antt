-- What the contracts of `listing` cite.
pub mod Found
pub mod Search
