pub mod LevelLaws
pub mod Grounds
pub mod Words
pub mod Turns
pub mod Roots
pub mod Exact
pub mod Sounding
