pub mod Examples
pub mod Modes
pub mod Lawful
pub mod Sealing
pub mod StandardModes
