pub mod Openings
pub mod Passages
