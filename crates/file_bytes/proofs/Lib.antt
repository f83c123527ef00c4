pub mod ReadingSteps
pub mod Sections
