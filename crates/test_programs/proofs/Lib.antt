pub mod Records
pub mod Outputs
pub mod FileRecords
pub mod Texts
pub mod Rehearsals
pub mod ProgramRecords
