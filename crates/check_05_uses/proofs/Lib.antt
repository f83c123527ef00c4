pub mod Loops
pub mod UseCounts
