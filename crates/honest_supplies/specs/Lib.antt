pub mod Supplies
