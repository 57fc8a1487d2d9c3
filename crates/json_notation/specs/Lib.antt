pub mod Json
pub mod Computes
