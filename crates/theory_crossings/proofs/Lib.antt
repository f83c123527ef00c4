pub mod Places
pub mod Headings
pub mod Totals
pub mod Examples
