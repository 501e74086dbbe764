pub mod Cells
pub mod Distinct
