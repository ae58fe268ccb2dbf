pub mod Value
pub mod Row
