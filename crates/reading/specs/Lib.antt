-- What is read so far, as the table holds it; and what the reader's answer says.
pub mod States
pub mod Answers
