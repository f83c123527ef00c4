pub mod Hex
pub mod Decimals
pub mod Written
pub mod Cases
