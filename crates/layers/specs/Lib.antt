pub mod Layers
pub mod Lawful
