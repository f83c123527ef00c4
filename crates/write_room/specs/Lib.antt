pub mod Sizes
pub mod Counting
pub mod Rooms
