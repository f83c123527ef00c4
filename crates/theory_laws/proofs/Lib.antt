pub mod TruthValues
pub mod Lists
pub mod Codes
pub mod Records
pub mod Written
pub mod Rooms
pub mod GrowingLinks
