pub mod Fill
pub mod Batch
