pub mod States
pub mod Turns
