pub mod Met
pub mod All
pub mod Where
