pub mod Words
pub mod Counts
pub mod Founds
pub mod Levels
pub mod Blocks
pub mod Entries
pub mod Strides
pub mod Starts
