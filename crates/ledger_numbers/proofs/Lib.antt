pub mod Filling
pub mod Arguments
pub mod Numbers
