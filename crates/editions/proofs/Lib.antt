pub mod Bodies
pub mod Joined
pub mod Promise
pub mod Ways
