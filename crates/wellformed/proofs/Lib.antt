pub mod Editions
pub mod Hubs
pub mod Marks
pub mod Ordered
pub mod Queues
pub mod Turns
pub mod Whole
