pub mod Sixes
