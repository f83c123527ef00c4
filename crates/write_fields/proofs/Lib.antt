pub mod Fields
pub mod Accepted
