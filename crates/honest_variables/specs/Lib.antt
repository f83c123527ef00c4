pub mod Slots
pub mod Variables
