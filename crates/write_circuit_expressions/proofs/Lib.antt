pub mod Circuits
pub mod CircuitNodes
