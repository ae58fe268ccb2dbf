pub mod Result
pub mod Standing
