pub mod Parameters
pub mod Openings
