pub mod Places
pub mod Statements
pub mod Nodes
