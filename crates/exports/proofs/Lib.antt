-- From answers to words.
pub mod Worded
