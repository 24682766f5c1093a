-- The marks as numbers, and what the readers' answers say.
pub mod Marks
pub mod Said
