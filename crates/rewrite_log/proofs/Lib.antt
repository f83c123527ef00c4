pub mod FiveNumbers
pub mod Turns
