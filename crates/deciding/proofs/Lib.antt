pub mod Judging
pub mod Walkable
pub mod Outcomes
pub mod Phases
