pub mod Sparse
pub mod Weights
pub mod Owners
pub mod Written
pub mod Headings
pub mod Room
