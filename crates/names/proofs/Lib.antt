pub mod PlaceLaws
pub mod ChainLaws
pub mod Walk
pub mod MentionLaws
