pub mod Entered
pub mod Checked
pub mod Sequenced
