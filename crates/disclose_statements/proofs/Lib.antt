pub mod StatementsByKind
pub mod Bounds
