pub mod Entries
pub mod Logs
