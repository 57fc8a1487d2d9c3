pub mod LocalRows
pub mod Followed
pub mod Following
pub mod Local
pub mod Follows
