-- What a reader must believe, in the paper's order.
-- Messages:
pub mod Term
pub mod Carry
pub mod Subst
-- The bench sheet:
pub mod Limits
pub mod Lists
pub mod Table
pub mod Skeleton
pub mod Sheet
pub mod Reading
-- The skeleton rules, and when the bench refuses:
pub mod Events
pub mod Accepting
pub mod Judging
-- Derivability:
pub mod Derive
-- Strand maps:
pub mod Rising
pub mod Maps
-- The questions, the answers as the code gives them, and what the bench writes:
pub mod Answers
pub mod Says
pub mod Lines
pub mod Report
