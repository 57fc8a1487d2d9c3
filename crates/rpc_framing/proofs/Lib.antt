mod Scanned
mod Readings
mod Taken
mod Held
pub mod Kept
pub mod Texts
pub mod Worked
pub mod Divided
mod Parts
mod Words
mod Lexed
mod Nested
mod Values
pub mod Told
mod Printed
pub mod Whole
