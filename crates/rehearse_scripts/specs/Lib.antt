pub mod Scripts
pub mod Parts
