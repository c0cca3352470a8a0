mod RowFacts
mod RoundFacts
pub mod Runs
pub mod KeyRows
pub mod Layouts
