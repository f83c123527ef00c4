pub mod Answers
pub mod Following
pub mod Pairs
pub mod Entries
pub mod Existing
pub mod Examples
