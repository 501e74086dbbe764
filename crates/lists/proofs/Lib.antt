pub mod Counting
pub mod Fronts
pub mod Laws
pub mod Only
pub mod Padding
