pub mod Signed
pub mod Ranges
pub mod Values
pub mod Rows
