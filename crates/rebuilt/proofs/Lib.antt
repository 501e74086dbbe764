pub mod Building
pub mod Promise
pub mod Reading
