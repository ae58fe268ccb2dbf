pub mod Loops
pub mod Answers
