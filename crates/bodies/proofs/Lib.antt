pub mod Blocks
pub mod Entries
pub mod Hubs
pub mod Parts
pub mod Turns
