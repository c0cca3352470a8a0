pub mod Cipher
pub mod Laws
pub mod Tables
pub mod Examples
pub mod Variants
pub mod Parts
