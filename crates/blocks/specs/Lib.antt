pub mod Good
pub mod Block
