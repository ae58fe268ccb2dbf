pub mod RingLaws
pub mod LeafLaws
pub mod Equal
pub mod RangeLaws
