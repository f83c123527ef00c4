pub mod Parents
pub mod TreeNodes
