pub mod Lawful
pub mod Unpermuted
