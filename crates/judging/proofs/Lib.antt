pub mod Starts
pub mod Turning
