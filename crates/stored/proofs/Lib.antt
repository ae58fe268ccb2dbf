pub mod FieldLaws
pub mod ScanLaws
pub mod Places
pub mod OrderLaws
pub mod Levels
pub mod WellFormed
pub mod ReadBack
pub mod Reading
