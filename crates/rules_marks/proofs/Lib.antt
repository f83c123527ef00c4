pub mod Marking
pub mod Parts
