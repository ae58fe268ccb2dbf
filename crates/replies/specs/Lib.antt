pub mod Replied
pub mod Laid
