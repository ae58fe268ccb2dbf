pub mod Parts
pub mod Body
pub mod Taken
