pub mod Passes
pub mod SetUps
