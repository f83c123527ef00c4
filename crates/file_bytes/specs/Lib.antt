pub mod Layout
pub mod Node
