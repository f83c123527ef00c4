pub mod Pieces
pub mod Functions
pub mod Counting
pub mod Acceptance
pub mod Room
