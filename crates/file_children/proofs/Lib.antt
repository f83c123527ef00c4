pub mod Truth
pub mod Loops
pub mod Children
pub mod ByCount
pub mod Tests
