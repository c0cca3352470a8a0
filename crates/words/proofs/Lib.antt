pub mod WordFacts
pub mod Numbers
