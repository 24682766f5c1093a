-- Laws that belong to no one function.
pub mod MapLines
pub mod Telling
