pub mod Wide
pub mod Fitting
