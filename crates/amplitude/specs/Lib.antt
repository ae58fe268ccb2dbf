pub mod Amp
pub mod Leaf
