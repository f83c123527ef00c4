pub mod Values
pub mod Written
pub mod Cases
