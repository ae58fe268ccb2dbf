pub mod TallyLaws
pub mod Placed
pub mod Branches
pub mod Skips
pub mod Rooms
pub mod Listed
pub mod Verdicts
