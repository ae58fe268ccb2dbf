pub mod ByImage
