pub mod Trees
pub mod Scopes
pub mod Slices
