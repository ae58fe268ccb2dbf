pub mod Examples
pub mod CheckTheorem
pub mod GateTheorem
pub mod Determined
