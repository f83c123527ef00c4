pub mod Acceptance
pub mod Environment
pub mod Standing
pub mod Secrecy
