pub mod Turns
pub mod Circuits
pub mod Told
