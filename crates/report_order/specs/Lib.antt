pub mod Counts
pub mod Passing
