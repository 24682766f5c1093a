-- The candidates, and that those that pass are the list.
pub mod Numbered
pub mod Filtered
pub mod Powers
pub mod Written
pub mod EndToEnd
