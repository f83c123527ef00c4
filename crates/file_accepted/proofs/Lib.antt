pub mod Nodes
pub mod Declarations
pub mod Accepted
pub mod Functions
pub mod Sources
