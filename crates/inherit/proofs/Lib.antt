pub mod Linking
pub mod Passing
pub mod Rising
pub mod Sixteen
pub mod Turns
