pub mod ChainLevels
pub mod Loops
