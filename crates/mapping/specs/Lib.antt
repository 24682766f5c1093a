-- What the contracts of `mapping` cite.
pub mod Judged
pub mod Listed
pub mod Origins
pub mod Written
