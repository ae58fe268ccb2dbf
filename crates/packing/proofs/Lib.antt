pub mod Front
pub mod Rows
pub mod File
pub mod Packed
