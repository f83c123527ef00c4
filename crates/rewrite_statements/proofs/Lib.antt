pub mod Statements
pub mod Roots
