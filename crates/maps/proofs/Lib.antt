-- Laws that belong to no one function; what rule 3 leaves for the atoms, and what rule 6's test asks of origins.
mod Answers
mod Keeping
mod Found
pub mod Sending
pub mod Starting
