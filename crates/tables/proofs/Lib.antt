-- Laws that belong to no one function.
pub mod Stored
pub mod Look
pub mod Parts
pub mod RowPuts
pub mod Right
pub mod BlockPuts
pub mod StrandPuts
pub mod Begins
pub mod Nodes
pub mod Listed
