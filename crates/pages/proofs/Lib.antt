pub mod Parts
pub mod SchemeParts
pub mod Equations
pub mod Numbers
mod Calls
mod Laws
mod Examples
