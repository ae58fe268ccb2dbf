pub mod Copies
pub mod Cells
pub mod Relations
pub mod Begins
pub mod Grounds
