-- Laws that belong to no one function.
mod Marking
mod Giving
mod Listing
