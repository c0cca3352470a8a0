pub mod Registers
pub mod Rows
