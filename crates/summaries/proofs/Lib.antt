pub mod Masks
pub mod Promise
