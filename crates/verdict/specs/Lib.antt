pub mod Verdict
pub mod Search
