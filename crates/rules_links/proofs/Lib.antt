pub mod Names
pub mod Growing
pub mod Places
pub mod Joining
