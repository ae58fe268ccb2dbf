pub mod Gated
