pub mod Tested
pub mod Working
