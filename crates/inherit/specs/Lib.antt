pub mod Asked
pub mod Keyed
pub mod Linked
