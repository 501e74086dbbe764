mod Blocks
pub mod Laws
mod Stores
