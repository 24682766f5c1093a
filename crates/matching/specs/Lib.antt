-- What the contracts of `matching` cite.
pub mod Matches
pub mod Ready
pub mod Pass
pub mod Props
