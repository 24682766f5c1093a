-- What the table holds, from the bytes to the verdict; and what follows of a sheet.
pub mod Lies
pub mod InTurn
pub mod Known
