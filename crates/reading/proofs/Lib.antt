-- Laws that belong to no one function.
pub mod Keeps
pub mod Told
pub mod Rooms
pub mod Reached
pub mod Nexts
