pub mod Numbers
pub mod MoreLinks
pub mod Faults
pub mod NothingLost
pub mod Computed
pub mod Examples
