pub mod Leaf
pub mod Source
