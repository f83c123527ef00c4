pub mod Owners
pub mod Files
