pub mod Base
pub mod Claims
