pub mod Pieces
pub mod Rewritten
pub mod Nodes
pub mod Functions
