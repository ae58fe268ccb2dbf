pub mod Foresee
