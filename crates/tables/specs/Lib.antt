-- Where a sheet lies in its table, and what the table means.
pub mod Layout
pub mod Tables
pub mod Nodes
pub mod Drawn
pub mod Props
pub mod Kinds
pub mod Assumed
-- What the functions of `tables` ask and do.
pub mod Rows
pub mod Stores
