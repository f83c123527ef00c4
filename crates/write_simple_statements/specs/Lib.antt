pub mod Places
pub mod Statements
