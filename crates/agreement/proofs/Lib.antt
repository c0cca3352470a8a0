pub mod Rows
pub mod Laws
pub mod Images
pub mod Edits
pub mod Holds
pub mod Leads
pub mod Pages
pub mod KeptLogs
pub mod Counts
pub mod Agreed
pub mod Runs
mod Crossings
mod Played
