pub mod Choice
pub mod Tree
pub mod Sets
pub mod Members
