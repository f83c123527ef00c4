pub mod Appended
pub mod Pieces
pub mod Statements
pub mod Singles
pub mod Functions
pub mod Lengths
pub mod Parts
pub mod Ends
