pub mod Circuits
pub mod ClaimsWithin
