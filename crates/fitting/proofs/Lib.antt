pub mod Leaves
pub mod Tries
