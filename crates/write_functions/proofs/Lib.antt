pub mod Written
pub mod Logs
pub mod Heading
pub mod Functions
