pub mod Honest
pub mod Public
