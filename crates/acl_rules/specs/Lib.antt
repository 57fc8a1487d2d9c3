pub mod Matching
pub mod Permits
