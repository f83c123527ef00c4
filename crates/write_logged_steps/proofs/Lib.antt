pub mod Held
pub mod Apart
pub mod Logged
pub mod Readings
pub mod Within
