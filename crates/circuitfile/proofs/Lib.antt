pub mod Scan
pub mod Judging
pub mod Gates
