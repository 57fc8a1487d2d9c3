pub mod Said
pub mod Scan
pub mod Streams
pub mod Pieces
pub mod Written
pub mod Division
pub mod Told
