pub mod Loops
pub mod Sections
