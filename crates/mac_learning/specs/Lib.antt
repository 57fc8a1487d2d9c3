pub mod Keyed
pub mod Learning
