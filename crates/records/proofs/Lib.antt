pub mod ReadLaws
pub mod Step
