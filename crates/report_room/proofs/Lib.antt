pub mod Largest
pub mod Room
