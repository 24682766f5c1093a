-- From an accepted sheet in its table to the answers.
pub mod Answered
