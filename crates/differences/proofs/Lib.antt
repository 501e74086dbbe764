pub mod Passes
pub mod Promise
pub mod Ways
