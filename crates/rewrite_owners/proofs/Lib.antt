pub mod Codes
pub mod Declared
pub mod Names
pub mod Targets
