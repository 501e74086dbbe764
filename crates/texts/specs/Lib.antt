pub mod Cells
pub mod Texts
