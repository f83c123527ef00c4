pub mod Context
pub mod Functions
