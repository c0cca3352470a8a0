pub mod Words
pub mod Word
pub mod Pairs
