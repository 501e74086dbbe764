pub mod Back
pub mod Loops
