pub mod Bodies
pub mod Listed
pub mod BodyNodes
