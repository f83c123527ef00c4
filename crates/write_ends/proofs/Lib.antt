pub mod Turns
pub mod Marked
