pub mod Fours
pub mod Entries
pub mod Turns
pub mod Held
pub mod Logged
pub mod Claims
pub mod Within
pub mod Claimable
