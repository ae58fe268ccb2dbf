pub mod Ends
pub mod Source
