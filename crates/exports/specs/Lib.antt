-- The answers as words; one word for what is asked, and one answer for a word.
pub mod Words
pub mod Said
pub mod OneWord
