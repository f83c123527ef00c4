pub mod Slots
pub mod Codes
pub mod Contents
pub mod Fitting
pub mod Told
pub mod Small
pub mod Call
