pub mod Files
pub mod Flats
pub mod WellFormedParts
