pub mod Reading
pub mod Tallies
pub mod Damages
