pub mod Slices
pub mod Node
pub mod Sections
