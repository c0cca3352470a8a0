pub mod RoundFacts
pub mod Layouts
mod Permuted
