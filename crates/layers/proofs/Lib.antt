mod Blocks
mod Sums
mod Passes
