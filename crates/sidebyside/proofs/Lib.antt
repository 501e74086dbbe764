pub mod Lengths
pub mod Promise
pub mod Turns
pub mod Ways
