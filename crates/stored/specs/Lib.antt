pub mod Refusal
pub mod Fields
pub mod Form
pub mod Rules
pub mod Judge
pub mod Pack
