pub mod Tails
pub mod Steps
pub mod Begins
pub mod Rounds
pub mod Climb
