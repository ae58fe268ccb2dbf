pub mod Fresh
pub mod Whole
pub mod Going
