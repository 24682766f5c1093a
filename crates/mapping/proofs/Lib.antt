-- Laws that belong to no one function, and what is known of a sheet that was read.
mod Judging
mod Starting
mod Writing
pub mod Reading
pub mod Asking
