pub mod Grow
pub mod Code
pub mod Meet
