pub mod Arguments
pub mod Numbers
