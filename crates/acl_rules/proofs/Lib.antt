pub mod Distinct
pub mod LeastDecides
pub mod Placed
