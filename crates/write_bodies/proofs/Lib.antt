pub mod Guards
pub mod Commands
pub mod Positions
pub mod Logged
pub mod Sequences
pub mod Branches
pub mod Conditionals
