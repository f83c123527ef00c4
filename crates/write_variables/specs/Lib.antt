pub mod PerEntry
pub mod Variables
