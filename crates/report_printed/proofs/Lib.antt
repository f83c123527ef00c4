pub mod Reading
pub mod Totals
pub mod Examples
