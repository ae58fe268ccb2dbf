pub mod Growth
pub mod OneMore
pub mod Going
