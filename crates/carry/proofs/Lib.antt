-- Laws that belong to no one function.
pub mod Shown
pub mod Rows
mod Paths
mod Lent
mod Parts
mod Closing
mod Sorts
