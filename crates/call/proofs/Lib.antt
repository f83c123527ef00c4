pub mod Answers
pub mod Whole
pub mod Together
