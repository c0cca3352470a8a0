pub mod Lanes
pub mod RoundKeys
pub mod Lawful
