pub mod KeyRows
pub mod Nibbles
pub mod Padding
pub mod Quarters
