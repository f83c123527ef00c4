pub mod Values
pub mod Addresses
