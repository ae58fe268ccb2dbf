pub mod Preparations
pub mod Readied
