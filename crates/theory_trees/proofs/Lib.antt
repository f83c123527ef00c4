pub mod Unfolding
pub mod Falls
pub mod Kept
pub mod ByKind
