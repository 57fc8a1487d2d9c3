pub mod Atoms
pub mod Sets
pub mod Exact
pub mod Notation
