pub mod Steps
pub mod Singles
pub mod Pairs
pub mod Keys
