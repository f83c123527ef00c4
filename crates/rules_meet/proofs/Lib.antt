pub mod Meeting
pub mod Branches
