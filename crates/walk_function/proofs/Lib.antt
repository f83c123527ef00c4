pub mod Fronts
pub mod Walks
