pub mod Makers
pub mod Replies
