pub mod Members
pub mod Parts
pub mod Uses
pub mod Columns
