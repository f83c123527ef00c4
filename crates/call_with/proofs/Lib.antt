pub mod CallParts
pub mod AfterCall
