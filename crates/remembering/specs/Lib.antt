pub mod Copies
pub mod Fits
pub mod Memory
pub mod Slots
