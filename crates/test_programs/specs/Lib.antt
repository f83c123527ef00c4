pub mod Records
pub mod Outputs
pub mod FileRecords
pub mod ProgramRecords
