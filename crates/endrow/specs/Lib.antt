pub mod Ended
pub mod Leaf
