pub mod Reply
pub mod Buffers
pub mod OneGate
pub mod Check
pub mod Entry
pub mod Program
