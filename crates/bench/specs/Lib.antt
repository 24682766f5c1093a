-- What the bench program writes, and how far it has got.
pub mod Report
pub mod OneReport
pub mod Steps
