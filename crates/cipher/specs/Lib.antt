pub mod Engines
pub mod Keys
pub mod Rows
