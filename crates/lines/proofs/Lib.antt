mod Cuts
mod Examples
mod Steps
