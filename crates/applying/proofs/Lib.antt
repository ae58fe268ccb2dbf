pub mod Roots
pub mod OldTable
pub mod NewTable
pub mod OneGate
pub mod ReadGates
