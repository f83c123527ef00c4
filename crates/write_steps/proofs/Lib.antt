pub mod Nesting
pub mod Entries
pub mod Turns
pub mod Closing
pub mod Nested
