pub mod Turns
pub mod OwnRows
pub mod Unions
pub mod Finding
pub mod AltsLaws
