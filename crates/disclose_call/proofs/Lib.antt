pub mod Bodies
pub mod Requests
