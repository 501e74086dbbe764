pub mod History
pub mod Statements
