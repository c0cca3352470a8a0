pub mod Rows
mod Groups
mod MaskRows
