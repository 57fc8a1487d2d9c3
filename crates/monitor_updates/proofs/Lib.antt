pub mod Keyed
pub mod Views
pub mod Forms
pub mod Tables
pub mod Openings
pub mod NoFraction
pub mod Members
pub mod Known
pub mod Among
pub mod RowsBack
pub mod Follow
pub mod Read
mod Worked
