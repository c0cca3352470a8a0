pub mod Agreements
pub mod Played
pub mod Standing
