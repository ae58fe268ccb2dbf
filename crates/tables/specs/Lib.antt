pub mod Table
pub mod States
pub mod Unpack
pub mod Ready
pub mod Slices
