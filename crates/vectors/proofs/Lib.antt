pub mod Words
pub mod Gates
pub mod Digits
pub mod Pieces
pub mod MixSteps
pub mod Parts
pub mod Swizzle
