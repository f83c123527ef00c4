pub mod ByKind
pub mod Parts
pub mod Ends
