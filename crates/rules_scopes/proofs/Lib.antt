pub mod Nodes
pub mod Named
pub mod Tables
pub mod Slices
