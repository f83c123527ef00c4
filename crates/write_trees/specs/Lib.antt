pub mod Trees
pub mod Table
pub mod Numbers
