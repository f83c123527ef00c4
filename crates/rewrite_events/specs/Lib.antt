pub mod Events
pub mod Ends
pub mod Making
pub mod Parts
