pub mod Names
pub mod Learning
