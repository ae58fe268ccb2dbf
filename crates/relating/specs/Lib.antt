pub mod Found
pub mod Planes
pub mod Related
pub mod Roots
