pub mod Crossing
pub mod Each
