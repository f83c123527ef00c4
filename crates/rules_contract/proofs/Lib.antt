pub mod Passing
pub mod Functions
