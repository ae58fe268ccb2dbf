pub mod Masks
pub mod Choosing
pub mod Order
pub mod Lists
pub mod Words
pub mod MemberLaws
