pub mod ReachLaws
pub mod Spreads
