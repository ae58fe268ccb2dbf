pub mod OneRead
pub mod Storing
pub mod GateOn
