pub mod Cases
pub mod States
