-- Laws and decision procedures about the definitions of `model`. Nobody has to believe any of it.
-- Tools: tests, lists, decisions.
pub mod Tests
pub mod Each
pub mod Find
pub mod Places
pub mod ListTests
pub mod Upto
pub mod RisingLists
pub mod Deciding
-- Messages and tables: parts, substitutions; equal numbers are equal terms; the terms of a table are closed.
pub mod Parts
pub mod Within
pub mod Substituting
pub mod GoodTable
pub mod Numbers
pub mod OnSheet
pub mod Atoms
-- The least set that rules close, and what is found by such rules.
pub mod Rules
pub mod RowRules
pub mod Locality
pub mod Reach
pub mod Carrying
pub mod Precedence
-- Skeletons, their events, and skeletons on a table.
pub mod Happenings
pub mod Skeletons
pub mod OnTable
-- Strand maps: one substitution at most.
pub mod MapLaws
pub mod Coherent
pub mod Matching
-- From bytes to a verdict: one outcome of reading, exactly the encodings, and what an accepted sheet is.
pub mod Records
pub mod RecordBytes
pub mod Standing
pub mod Outcome
pub mod Encoding
pub mod Lengths
pub mod Readable
pub mod Continued
pub mod Judgement
-- The questions: no second answer to any, and the agreement.
pub mod NoSecond
pub mod Agreement
