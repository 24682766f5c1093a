-- How large an answer's numbers are, and that there is no second answer; what the answers say is in `model`.
pub mod Small
pub mod OneAnswer
