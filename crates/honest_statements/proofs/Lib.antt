pub mod Putting
pub mod Steps
pub mod Contents
