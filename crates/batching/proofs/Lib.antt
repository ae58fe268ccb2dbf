pub mod Grounds
pub mod Grows
pub mod Wholes
pub mod Batches
