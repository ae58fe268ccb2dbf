pub mod Levels
pub mod Seeking
pub mod On
