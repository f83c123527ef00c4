pub mod Addresses
pub mod ValuesByKind
