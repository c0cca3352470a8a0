pub mod EngineRuns
pub mod Sums
