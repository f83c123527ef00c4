pub mod PerEntry
pub mod Variables
pub mod Keys
pub mod Links
