pub mod Vectors
pub mod Circuits
