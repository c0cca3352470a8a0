pub mod Examples
pub mod Fields
pub mod Lines
pub mod Replies
