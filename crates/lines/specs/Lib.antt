pub mod Lines
pub mod Scan
