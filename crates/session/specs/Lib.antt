pub mod Session
pub mod Examples
pub mod Faults
pub mod Logs
pub mod Transcripts
