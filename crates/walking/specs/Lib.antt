pub mod On
pub mod Tallied
pub mod Walk
