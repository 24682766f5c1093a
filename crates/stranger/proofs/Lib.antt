-- Laws that belong to no one function.
mod Steps
mod Least
mod Tables
mod Starting
mod Passing
mod Reaching
