-- P1 to P12 of the paper, the rules of strand maps, bad sheets and the limits, for the definitions themselves.
pub mod Hex
pub mod Cases
pub mod RuleCases
pub mod Questions
pub mod Refusals
pub mod Faults
pub mod Limits
pub mod Longest
pub mod Texts
