pub mod Openings
pub mod Forms
pub mod Room
