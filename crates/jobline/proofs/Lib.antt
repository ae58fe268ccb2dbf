pub mod Word
pub mod Lines
