pub mod Elements
pub mod Words
pub mod Sequences
pub mod Jobs
pub mod Entry
