pub mod Ledgers
pub mod Whole
