-- What the contracts of `questions` cite.
pub mod Subject
